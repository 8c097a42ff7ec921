-- The parts of a spelling.
use Rattle.std.proofs.Common.{◌≡◌, ◌≢◌, ℕ, ◌+◌, ◌*◌, ◌^◌, ◌<◌, ◌≤◌, Bool, true, false, List, [], ◌++◌, length, take, drop, Ok, Err, Result, refl, sym, ap, ◌∙◌, subst, arith, length-append}
use Rattle.std.specs.Prelude.{◌&&◌, ◌||◌, ◌==◌, nat_lt, if◌then◌else◌}
use Rattle.std.specs.List.{list_all, list_any, position_or_len}
use Rattle.std.specs.Char.{is_ascii_digit}
use Rattle.std.specs.Str.Parse.{digits_value, digits_value_after}
use Rattle.std.proofs.lemmas.Bool.{ne_eqb}
use Rattle.std.proofs.lemmas.Bool.Decides.{nat_tests}
use Rattle.std.proofs.lemmas.List.{drop_all}
use Rattle.std.proofs.lemmas.List.Folds.{list_any_none, list_any_at, list_all-append}
use Rattle.std.proofs.lemmas.List.Sums.{fails_before_first, passes_at_first}
use Rattle.rational.specs.Rational.{ℚ, fraction}
use Rattle.frac_core.specs.Parts.{max_part}
use Rattle.word_arithmetic.specs.Signed.{signed}
use Rattle.mps_tokens.specs.declared.digits.Digits.{Digits}
use Rattle.mps_tokens.specs.declared.natural.Natural.{Natural}
use Rattle.mps_tokens.specs.declared.fault.NumberFault.{NumberFault}
use Rattle.mps_tokens.specs.declared.fault.NumberFault.TheVariants.{NotNumber, Past}
use Rattle.mps_tokens.specs.Spelling.{is_numeral, is_negative, without_sign, is_mark, is_point, is_slash, mantissa_of, exponent_of, without_point, places_of, is_exponent}
use Rattle.mps_tokens.specs.Numbers.{decimal_value, decimal_of, fraction_value, fraction_of, number_of, up_of, down_of}
use Rattle.mps_tokens.specs.Running.{IsCapped, AreDigitsOf}
use Rattle.mps_tokens.proofs.ReadDigits.{after_append}

pub any_none : (p : ℕ → Bool) (xs : List ℕ) → position_or_len p xs ≡ length xs → list_any p xs ≡ false
any_none p xs e = list_any_none p xs (λ k d lt. fails_before_first p xs k d (omega arith))

pub any_some : (p : ℕ → Bool) (xs : List ℕ) → position_or_len p xs < length xs → list_any p xs ≡ true
any_some p xs h = list_any_at p xs (position_or_len p xs) 0 h (passes_at_first p xs 0 h)

-- the digits' number, where the zeros are put behind it again
pub zeros_back : (v : ℕ) (d : Digits) (n : Natural) → AreDigitsOf v d → ((m : ℕ) → IsCapped m d.size → IsCapped (m * 10 ^ d.zeros) n) → IsCapped v n
zeros_back v d n h step = subst (λ (k : ℕ). IsCapped k n) (sym h.1.whole) (step h.0 h.2)

pub numeral_yes : (bytes : List ℕ) → 0 < length bytes → list_all is_ascii_digit bytes ≡ true → is_numeral bytes ≡ true
numeral_yes bytes some digits = rw (ne_eqb (length bytes) 0 (λ e. omega arith), digits) refl

pub numeral_joined : (whole part : List ℕ) → 0 < length whole + length part → list_all is_ascii_digit whole ≡ true → list_all is_ascii_digit part ≡ true → is_numeral (whole ++ part) ≡ true
numeral_joined whole part some a b =
    let digits : list_all is_ascii_digit (whole ++ part) ≡ true = list_all-append is_ascii_digit whole part ∙ rw (a, b) refl in
    numeral_yes (whole ++ part) (omega (arith, length-append whole part)) digits

-- a mantissa's digits, by its parts
pub point_parts : (bytes whole part : List ℕ) (place : ℕ) → place ≡ position_or_len is_point bytes → whole ≡ take place bytes → part ≡ drop (place + 1) bytes
    → (without_point bytes ≡ whole ++ part) × (places_of bytes ≡ length part)
point_parts bytes whole part place p a b = (rw (a, b, p) refl, rw (b, p) refl)

pub mantissa_is : (bytes whole part : List ℕ) (place : ℕ) (d : Digits) → place ≡ position_or_len is_point bytes → whole ≡ take place bytes → part ≡ drop (place + 1) bytes
    → 0 < length whole + length part → list_all is_ascii_digit whole ≡ true → list_all is_ascii_digit part ≡ true
    → AreDigitsOf (digits_value_after 10 (digits_value_after 10 0 whole) part) d
    → (is_numeral (without_point bytes) ≡ true) × AreDigitsOf (digits_value 10 (without_point bytes)) d × (length part ≡ places_of bytes)
mantissa_is bytes whole part place d p a b some x y h =
    let parts = point_parts bytes whole part place p a b in
    let value : digits_value 10 (without_point bytes) ≡ digits_value_after 10 (digits_value_after 10 0 whole) part = ap (digits_value 10) parts.0 ∙ after_append 0 whole part in
    (ap is_numeral parts.0 ∙ numeral_joined whole part some x y, subst (λ (v : ℕ). AreDigitsOf v d) (sym value) h, sym parts.1)

-- a decimal without an exponent
pub unmarked : (negative : Bool) (body before : List ℕ) (place places : ℕ) → places ≡ places_of before → place ≡ position_or_len is_mark body → place ≡ length body → before ≡ take place body
    → is_numeral (without_point before) ≡ true
    → decimal_value negative (digits_value 10 (without_point before)) (up_of false 0) (places + down_of false 0) ≡ decimal_of negative body
unmarked negative body before place places count p end a numeral =
    let none : list_any is_mark body ≡ false = any_none is_mark body (sym p ∙ end) in
    let first : mantissa_of body ≡ before = rw (a, p) refl in
    let rest : exponent_of body ≡ [] = drop_all (position_or_len is_mark body + 1) body (omega arith) in
    rw (none, first, rest, numeral, count) refl

-- a decimal with a mark and no exponent behind it
pub bad_exponent : (negative : Bool) (body before behind : List ℕ) (place : ℕ) → place ≡ position_or_len is_mark body → place ≢ length body → place ≤ length body → before ≡ take place body → behind ≡ drop (place + 1) body
    → is_exponent behind ≡ false → decimal_of negative body ≡ Err NotNumber
bad_exponent negative body before behind place p inside within a b bad =
    let some : list_any is_mark body ≡ true = any_some is_mark body (omega arith) in
    let rest : exponent_of body ≡ behind = rw (b, p) refl in
    rw (some, rest, bad) (last (is_numeral (without_point (mantissa_of body))) _)
  where
    last : (t : Bool) (x : Result ℚ NumberFault) → (if (t && false) then x else Err NotNumber) ≡ Err NotNumber
    last true x = refl
    last false x = refl

-- a number with a slash, and one without
pub slashed : (bytes body top bottom : List ℕ) (negative : Bool) (place : ℕ) → negative ≡ is_negative bytes → body ≡ without_sign bytes → place ≡ position_or_len is_slash body → place ≢ length body → place ≤ length body
    → top ≡ take place body → bottom ≡ drop (place + 1) body → fraction_of negative top bottom ≡ number_of bytes
slashed bytes body top bottom negative place n r p inside within a b =
    let some : list_any is_slash (without_sign bytes) ≡ true = ap (list_any is_slash) (sym r) ∙ any_some is_slash body (omega arith) in
    rw (some, n, a, b, p, r) refl

pub unslashed : (bytes body : List ℕ) (negative : Bool) (place : ℕ) → negative ≡ is_negative bytes → body ≡ without_sign bytes → place ≡ position_or_len is_slash body → place ≡ length body
    → decimal_of negative body ≡ number_of bytes
unslashed bytes body negative place n r p end =
    let none : list_any is_slash (without_sign bytes) ≡ false = ap (list_any is_slash) (sym r) ∙ any_none is_slash body (sym p ∙ end) in
    rw (none, n, r) refl

-- ---- fractions of two numerals

pub fraction_small : (negative : Bool) (p q : ℕ) → q ≢ 0 → p ≤ max_part → q ≤ max_part → Ok (fraction (signed negative p) q) ≡ (if q == 0 then Err NotNumber else fraction_value negative p q)
unfolding fraction_value
fraction_small negative p q some h k = rw (ne_eqb q 0 some, below p h, below q k) refl
  where
    below : (n : ℕ) → n ≤ max_part → nat_lt max_part n ≡ false
    below n h = grind (arith, nat_tests)

above : (n : ℕ) → max_part < n → nat_lt max_part n ≡ true
above n h = grind (arith, nat_tests)

pub top_past : (negative : Bool) (p q : ℕ) → q ≢ 0 → max_part < p → Err Past ≡ (if q == 0 then Err NotNumber else fraction_value negative p q)
unfolding fraction_value
top_past negative p q some h = rw (ne_eqb q 0 some, above p h) refl

pub bottom_past : (negative : Bool) (p q : ℕ) → max_part < q → Err Past ≡ (if q == 0 then Err NotNumber else fraction_value negative p q)
unfolding fraction_value
bottom_past negative p q h = rw (ne_eqb q 0 (λ e. omega arith), above q h) (either (nat_lt max_part p))
  where
    either : (t : Bool) → Err Past ≡ (if (t || true) then Err Past else Ok (fraction (signed negative p) q))
    either true = refl
    either false = refl
