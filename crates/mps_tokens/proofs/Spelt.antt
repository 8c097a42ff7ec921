-- What some spellings stand for, by calculation.
use Rattle.std.proofs.Common.{◌≡◌, ◌^◌, ℕ, ℤ, pos, negsuc, false, Result, Ok, Err, refl, ap, ◌∙◌, arith, lit<, lit≤}
use Rattle.std.specs.Prelude.{codes}
use Rattle.rational.specs.Divisors.{gcd_of}
use Rattle.rational.specs.Rational.{ℚ, ratio, whole, fraction}
use Rattle.mps_tokens.specs.declared.fault.NumberFault.{NumberFault}
use Rattle.mps_tokens.specs.declared.fault.NumberFault.TheVariants.{NotNumber, Past}
use Rattle.mps_tokens.specs.Numbers.{fitted, shortened, decimal_value, fraction_value, number_of}
use Rattle.mps_tokens.specs.Running.{IsShort}
use Rattle.mps_tokens.proofs.PowerValues.{shift_up, whole_fits}
use Rattle.mps_tokens.proofs.DecimalValues.{short_value, past_value}

-- the numerator and the denominator
abbrev parts : Result ℚ NumberFault → Result (ℤ × ℕ) NumberFault
parts (Ok q) = Ok (q.num, q.den)
parts (Err e) = Err e

decimals : (parts (number_of (codes "1e3")) ≡ Ok (pos 1000, 1))
    × (parts (number_of (codes "-2.50")) ≡ Ok (negsuc 4, 2))
    × (parts (number_of (codes ".5")) ≡ Ok (pos 1, 2))
    × (parts (number_of (codes "5.")) ≡ Ok (pos 5, 1))
    × (parts (number_of (codes "1d-2")) ≡ Ok (pos 1, 100))
    × (parts (number_of (codes "0e999")) ≡ Ok (pos 0, 1))
    × (parts (number_of (codes "+7")) ≡ Ok (pos 7, 1))
    × (parts (number_of (codes "-0")) ≡ Ok (pos 0, 1))
    × (parts (number_of (codes "1e38")) ≡ Ok (pos 100000000000000000000000000000000000000, 1))
    × (parts (number_of (codes "1e-38")) ≡ Ok (pos 1, 100000000000000000000000000000000000000))
unfolding decimal_value shortened ratio whole gcd_of
decimals = (refl, refl, refl, refl, refl, refl, refl, refl, refl, refl)

fractions : (parts (number_of (codes "6/4")) ≡ Ok (pos 3, 2)) × (parts (number_of (codes "-1/3")) ≡ Ok (negsuc 0, 3))
unfolding fraction_value ratio gcd_of
fractions = (refl, refl)

past : (number_of (codes "1e39") ≡ Err Past)
    × (number_of (codes "1e-39") ≡ Err Past)
    × (number_of (codes "1/170141183460469231731687303715884105728") ≡ Err Past)
unfolding decimal_value fraction_value shortened ratio gcd_of
past = (refl, refl, refl)

-- ---- where the numbers are too long to calculate with, by the laws

largest : number_of (codes "170141183460469231731687303715884105727") ≡ Ok (fraction (pos 170141183460469231731687303715884105727) 1)
largest =
    let n : ℕ = 170141183460469231731687303715884105727 in
    let short : IsShort n n 0 = record { whole = refl; ends = λ p. lit< tt } in
    short_value false n n 0 0 0 (λ e. absurd (omega (arith, e))) (lit≤ tt) short ∙ whole_fits false n (lit≤ tt)

above_largest : number_of (codes "170141183460469231731687303715884105728") ≡ Err Past
above_largest =
    let n : ℕ = 170141183460469231731687303715884105728 in
    let short : IsShort n n 0 = record { whole = refl; ends = λ p. lit< tt } in
    past_value false n n 0 0 0 (lit< tt) short

sixty_zeros : number_of (codes "1000000000000000000000000000000000000000000000000000000000000e-60") ≡ Ok (fraction (pos 1) 1)
sixty_zeros =
    let short : IsShort (10 ^ 60) 1 60 = record { whole = refl; ends = λ p. lit< tt } in
    short_value false (10 ^ 60) 1 60 0 60 (λ e. absurd (omega (arith, e))) (lit≤ tt) short ∙ ap fitted (shift_up false 1 60 60 (lit≤ tt)) ∙ whole_fits false 1 (lit≤ tt)

no_numbers : (number_of (codes ".") ≡ Err NotNumber)
    × (number_of (codes "1e") ≡ Err NotNumber)
    × (number_of (codes "1/0") ≡ Err NotNumber)
    × (number_of (codes "1/-2") ≡ Err NotNumber)
    × (number_of (codes "0x1") ≡ Err NotNumber)
    × (number_of (codes "") ≡ Err NotNumber)
    × (number_of (codes "1.2.3") ≡ Err NotNumber)
no_numbers = (refl, refl, refl, refl, refl, refl, refl)
