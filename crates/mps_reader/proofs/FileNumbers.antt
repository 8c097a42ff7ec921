-- The numbers of a file fit.
use Rattle.std.proofs.Common.{◌≡◌, ℕ, zero, suc, ◌≤◌, ◌^◌, ◌*◌, Bool, true, false, ◌||◌, List, Result, Ok, Err, refl, sym, subst, arith, lit≤, zero-le, suc-le-suc, if◌then◌else◌}
use Rattle.std.specs.Prelude.{ℤ, pos, unsigned_abs, nat_lt, nat_le, ◌&&◌, ◌==◌}
use Rattle.std.specs.List.{list_any, before_first, after_first}
use Rattle.std.specs.Str.Parse.{digits_value}
use Rattle.std.proofs.lemmas.Bool.Decides.{nat_tests}
use Rattle.std.proofs.lemmas.Bool.{or_parts}
use Rattle.rational.specs.Rational.{ℚ, zero_ℚ, fraction, fits, Fits}
use Rattle.rational.proofs.Wholes.{num-whole, den-whole}
use Rattle.frac_core.specs.Parts.{max_part}
use Rattle.word_arithmetic.specs.Signed.{signed, abs-signed}
use Rattle.mps_tokens.specs.declared.fault.NumberFault.{NumberFault}
use Rattle.mps_tokens.specs.declared.fault.NumberFault.TheVariants.{NotNumber, Past}
use Rattle.mps_tokens.specs.Spelling.{is_negative, without_sign, is_slash, mantissa_of, exponent_of, is_decimal, is_fraction}
use Rattle.mps_tokens.specs.Numbers.{fitted, shortened, decimal_value, decimal_from, decimal_of, fraction_value, fraction_of, number_of}
use Rattle.mps_tokens.proofs.PowerValues.{small_fits}
use Rattle.mps_grammar.specs.Told.{value_or_zero}

abbrev IsSmall : Result ℚ NumberFault → Type 0
IsSmall r = Fits max_part (value_or_zero r)

zero_fits : Fits max_part zero_ℚ
zero_fits = (
  subst (λ (n : ℤ). unsigned_abs n ≤ max_part) (sym (num-whole (pos 0))) (lit≤ tt),
  subst (λ (d : ℕ). d ≤ max_part) (sym (den-whole (pos 0))) (lit≤ tt),
)

two_tests : (a b top : ℕ) → (nat_le a top && nat_le b top) ≡ true → (a ≤ top) × (b ≤ top)
two_tests a b top e = (grind (arith, nat_tests), grind (arith, nat_tests))

fits_tells : (top : ℕ) (q : ℚ) → fits top q ≡ true → Fits top q
fits_tells top q e = two_tests (unsigned_abs q.num) q.den top e

fitted_small : (q : ℚ) → IsSmall (fitted q)
fitted_small q = by_test (fits max_part q) refl
  where
    by_test : (b : Bool) → fits max_part q ≡ b → IsSmall (if b then Ok q else Err Past)
    by_test true e = fits_tells max_part q e
    by_test false e = zero_fits

decimal_small : (negative : Bool) (m up down : ℕ) → IsSmall (decimal_value negative m up down)
unfolding decimal_value
decimal_small negative m up down = by_tests (m == 0) (nat_lt max_part (shortened m))
  where
    by_tests : (none past : Bool) → IsSmall (if none then Ok zero_ℚ else (if past then Err Past else fitted (fraction (signed negative (m * 10 ^ up)) (10 ^ down))))
    by_tests true past = zero_fits
    by_tests false true = zero_fits
    by_tests false false = fitted_small (fraction (signed negative (m * 10 ^ up)) (10 ^ down))

at_most : (top n : ℕ) → nat_lt top n ≡ false → n ≤ top
at_most top n e = grind (arith, nat_tests)

fraction_small : (negative : Bool) (p q : ℕ) → IsSmall (fraction_value negative p q)
unfolding fraction_value
fraction_small negative p q = by_test (nat_lt max_part p || nat_lt max_part q) refl
  where
    over : (q : ℕ) → q ≤ max_part → p ≤ max_part → Fits max_part (fraction (signed negative p) q)
    over zero h k = zero_fits
    over (suc d) h k = small_fits (signed negative p) (suc d) max_part (suc-le-suc zero-le) (subst (λ (n : ℕ). n ≤ max_part) (sym (abs-signed negative p)) k) h

    by_test : (b : Bool) → (nat_lt max_part p || nat_lt max_part q) ≡ b → IsSmall (if b then Err Past else Ok (fraction (signed negative p) q))
    by_test true e = zero_fits
    by_test false e = let parts = or_parts (nat_lt max_part p) (nat_lt max_part q) e in over q (at_most max_part q parts.1) (at_most max_part p parts.0)

decimal_spelling : (negative : Bool) (body : List ℕ) → IsSmall (decimal_of negative body)
decimal_spelling negative body = by_test (is_decimal body)
  where
    by_test : (b : Bool) → IsSmall (if b then decimal_from negative (mantissa_of body) (exponent_of body) else Err NotNumber)
    by_test true = decimal_small negative _ _ _
    by_test false = zero_fits

fraction_spelling : (negative : Bool) (top bottom : List ℕ) → IsSmall (fraction_of negative top bottom)
fraction_spelling negative top bottom = by_test (is_fraction top bottom)
  where
    by_test : (b : Bool) → IsSmall (if b then fraction_value negative (digits_value 10 top) (digits_value 10 bottom) else Err NotNumber)
    by_test true = fraction_small negative (digits_value 10 top) (digits_value 10 bottom)
    by_test false = zero_fits

-- the number of a spelling, or 0
pub spelling_small : (spelling : List ℕ) → Fits max_part (value_or_zero (number_of spelling))
spelling_small spelling = by_slash (list_any is_slash (without_sign spelling))
  where
    by_slash : (b : Bool)
        → IsSmall (if b then fraction_of (is_negative spelling) (before_first is_slash (without_sign spelling)) (after_first is_slash (without_sign spelling)) else decimal_of (is_negative spelling) (without_sign spelling))
    by_slash true = fraction_spelling (is_negative spelling) (before_first is_slash (without_sign spelling)) (after_first is_slash (without_sign spelling))
    by_slash false = decimal_spelling (is_negative spelling) (without_sign spelling)
