-- The text of a number that fits is read as that number.
use Rattle.std.proofs.Common.{◌≡◌, ◌≢◌, ℕ, zero, suc, ◌^◌, ◌<◌, ◌≤◌, Bool, true, false, List, [], ◌∷◌, ◌++◌, get_or, append-nil, Ok, Err, refl, sym, ap, ◌∙◌, arith, lit<, codes, ℤ, pos, negsuc}
use Rattle.std.specs.Prelude.{◌&&◌, ◌==◌, unsigned_abs, if◌then◌else◌}
use Rattle.std.specs.List.{list_all}
use Rattle.std.specs.Char.{is_ascii_digit}
use Rattle.std.specs.Str.{bytes_eq}
use Rattle.std.specs.Str.Parse.{digits_value}
use Rattle.std.specs.Fmt.{decimal, signed_decimal}
use Rattle.std.proofs.lemmas.Bool.{eq-eqb, eqb-true}
use Rattle.std.proofs.lemmas.Bool.Decides.{nat_tests}
use Rattle.std.proofs.lemmas.Slice.Eq.{bytes_eq-Decides}
use Rattle.std.proofs.lemmas.Fmt.{decimal_digit}
use Rattle.std.proofs.Math.Nat.{lt_of_le_of_lt}
use Rattle.rational.specs.Rational.{ℚ, whole, fraction, fraction_parts, Fits}
use Rattle.rational.specs.Divisors.{gcd_of, gcd_comm, gcd-zero}
use Rattle.rational.proofs.Wholes.{as_whole}
use Rattle.frac_core.specs.Parts.{max_part}
use Rattle.word_arithmetic.specs.Signed.{signed}
use Rattle.frac_core.specs.Text.{text_of}
use Rattle.mps_tokens.specs.declared.fault.NumberFault.TheVariants.{NotNumber}
use Rattle.cert_fields.specs.Numbers.{is_numeral, is_denominator, is_negative, without_minus, lowest_number, number_from, number_of}
use Rattle.cert_fields.proofs.NumberLemmas.{not_above, whole_lowest, zero_number, without_slash, with_slash}
use Rattle.cert_fields.proofs.NumberTexts.{IsPlain, plain_numeral, decimal_plain, decimal_value, digits_no_slash, slash_before, slash_behind, slash_there, alone_without}

-- ---- a sign and digits

abbrev pub spelled : Bool → List ℕ → List ℕ
spelled true ds = 45 ∷ ds
spelled false ds = ds

abbrev pub is_below : ℤ → Bool
is_below (pos n) = false
is_below (negsuc n) = true

pub signed_text : (z : ℤ) → signed_decimal z ≡ spelled (is_below z) (decimal (unsigned_abs z))
signed_text (pos n) = refl
signed_text (negsuc n) = refl

pub signed_parts : (z : ℤ) → signed (is_below z) (unsigned_abs z) ≡ z
signed_parts (pos n) = refl
signed_parts (negsuc n) = refl

pub size_pos : (z : ℤ) → z ≢ pos 0 → 0 < unsigned_abs z
size_pos (pos zero) h = absurd (h refl)
size_pos (pos (suc n)) h = omega arith
size_pos (negsuc n) h = omega arith

first_digit : (d : ℕ) → is_ascii_digit d ≡ true → (d == 45) ≡ false
first_digit d e = grind (arith, nat_tests)

head_digit : (d : ℕ) (ds : List ℕ) → list_all is_ascii_digit (d ∷ ds) ≡ true → is_ascii_digit d ≡ true
head_digit d ds e = go (is_ascii_digit d) e
  where
    go : (t : Bool) → (t && list_all is_ascii_digit ds) ≡ true → t ≡ true
    go true e = refl
    go false e = absurd cc

pub negative_is : (b : Bool) (ds rest : List ℕ) → IsPlain ds → b ≡ is_negative (spelled b (ds ++ rest))
negative_is true ds rest h = refl
negative_is false [] rest h = absurd (omega (arith, h.some))
negative_is false (d ∷ ds) rest h = sym (first_digit d (head_digit d ds h.digits))

pub body_is : (b : Bool) (ds rest : List ℕ) → IsPlain ds → ds ++ rest ≡ without_minus (spelled b (ds ++ rest))
body_is true ds rest h = refl
body_is false [] rest h = absurd (omega (arith, h.some))
body_is false (d ∷ ds) rest h = rw (first_digit d (head_digit d ds h.digits)) refl

differs : (xs ys : List ℕ) → (xs ≡ ys → ⊥) → bytes_eq xs ys ≡ false
differs xs ys h = go (bytes_eq xs ys) refl
  where
    go : (t : Bool) → bytes_eq xs ys ≡ t → t ≡ false
    go true e = absurd (h ((bytes_eq-Decides xs ys).0 e))
    go false e = refl

pub not_zero_text : (b : Bool) (ds rest : List ℕ) → IsPlain ds → bytes_eq (spelled b (ds ++ rest)) (codes "0") ≡ false
not_zero_text true ds rest h = refl
not_zero_text false [] rest h = absurd (omega (arith, h.some))
not_zero_text false (d ∷ ds) rest h = differs (d ∷ (ds ++ rest)) (codes "0") (λ e. h.first (ap (λ (t : List ℕ). get_or t 0 0) e))

-- ---- the two shapes

pub small : (n : ℕ) → n ≤ max_part → n < 10 ^ 64
small n h = lt_of_le_of_lt h (lit< tt)

some_read : (z : ℤ) → 0 < unsigned_abs z → unsigned_abs z ≤ max_part → number_of (signed_decimal z) ≡ Ok (whole z)
some_read z p h =
    let n = unsigned_abs z in
    let ds = decimal n in
    let plain : IsPlain ds = decimal_plain n p (small n h) in
    let absent = digits_no_slash ds plain.digits in
    let value : Ok (whole z) ≡ (if is_numeral ds then number_from (is_below z) (digits_value 10 ds) 1 else Err NotNumber) =
    ap (λ (y : ℤ). Ok (whole y)) (sym (signed_parts z)) ∙ sym (whole_lowest (is_below z) n) ∙ sym (rw (plain_numeral ds plain, decimal_value n (small n h), not_above n h) refl) in
    let text : spelled (is_below z) (ds ++ []) ≡ signed_decimal z = ap (spelled (is_below z)) (append-nil ds) ∙ sym (signed_text z) in
    let bytes = spelled (is_below z) (ds ++ []) in
    sym (without_slash bytes ds (is_below z) (Ok (whole z)) (not_zero_text (is_below z) ds [] plain) (negative_is (is_below z) ds [] plain) (sym (append-nil ds) ∙ body_is (is_below z) ds [] plain) absent (alone_without ds absent) value
    ∙ ap number_of text)

pub whole_read : (z : ℤ) → unsigned_abs z ≤ max_part → number_of (signed_decimal z) ≡ Ok (whole z)
whole_read (pos zero) h =
    let e : bytes_eq (decimal 0) (codes "0") ≡ true = (bytes_eq-Decides (decimal 0) (codes "0")).1 (decimal_digit 0 (lit< tt)) in
    sym (zero_number (decimal 0) (whole (pos 0)) e refl)
whole_read (pos (suc n)) h = some_read (pos (suc n)) (omega arith) h
whole_read (negsuc n) h = some_read (negsuc n) (omega arith) h

lowest_is : (v : ℚ) → Ok v ≡ lowest_number (is_below v.num) (unsigned_abs v.num) v.den
unfolding lowest_number
lowest_is v =
    let same : fraction (signed (is_below v.num) (unsigned_abs v.num)) v.den ≡ v = ap (λ z. fraction z v.den) (signed_parts v.num) ∙ fraction_parts v in
    sym (ap (λ (q : ℚ). if q.den == v.den then Ok q else Err NotNumber) same ∙ chosen (v.den == v.den) (eq-eqb v.den v.den refl))
  where
    chosen : (t : Bool) → t ≡ true → (if t then Ok v else Err NotNumber) ≡ Ok v
    chosen t e = rw e refl

num_not_zero : (v : ℚ) → v.den ≢ 1 → v.num ≢ pos 0
num_not_zero v h z = h (sym (gcd-zero v.den) ∙ gcd_comm v.den 0 ∙ ap (λ (n : ℤ). gcd_of (unsigned_abs n) v.den) (sym z) ∙ v.lowest.coprime)

pub appended : (b : Bool) (ds rest : List ℕ) → spelled b ds ++ rest ≡ spelled b (ds ++ rest)
appended true ds rest = refl
appended false ds rest = refl

ratio_read : (v : ℚ) → v.den ≢ 1 → Fits max_part v → number_of (signed_decimal v.num ++ 47 ∷ decimal v.den) ≡ Ok v
ratio_read v h fit =
    let b = is_below v.num in
    let n = unsigned_abs v.num in
    let top = decimal n in
    let bottom = decimal v.den in
    let p = size_pos v.num (num_not_zero v h) in
    let plain : IsPlain top = decimal_plain n p (small n fit.0) in
    let under : IsPlain bottom = decimal_plain v.den v.lowest.positive (small v.den fit.1) in
    let not_one : bytes_eq bottom (codes "1") ≡ false = differs bottom (codes "1") (λ e. h (sym (decimal_value v.den (small v.den fit.1)) ∙ ap (digits_value 10) e)) in
    let value : Ok v ≡ (if is_numeral top && is_denominator bottom then number_from b (digits_value 10 top) (digits_value 10 bottom) else Err NotNumber) =
    lowest_is v ∙ sym (rw (plain_numeral top plain, plain_numeral bottom under, not_one, decimal_value n (small n fit.0), decimal_value v.den (small v.den fit.1), not_above n fit.0, not_above v.den fit.1) refl) in
    let text : spelled b (top ++ 47 ∷ bottom) ≡ signed_decimal v.num ++ 47 ∷ bottom = sym (appended b top (47 ∷ bottom)) ∙ ap (λ (t : List ℕ). t ++ 47 ∷ bottom) (sym (signed_text v.num)) in
    let bytes = spelled b (top ++ 47 ∷ bottom) in
    sym (with_slash bytes (top ++ 47 ∷ bottom) top bottom b (Ok v) (not_zero_text b top (47 ∷ bottom) plain) (negative_is b top (47 ∷ bottom) plain) (body_is b top (47 ∷ bottom) plain) (slash_there top bottom)
    (sym (slash_before top bottom plain.digits)) (sym (slash_behind top bottom plain.digits)) value
    ∙ ap number_of text)

pub number_read : (v : ℚ) → Fits max_part v → number_of (text_of v) ≡ Ok v
number_read v fit = go (v.den == 1) refl
  where
    go : (t : Bool) → (v.den == 1) ≡ t → number_of (if t then signed_decimal v.num else signed_decimal v.num ++ 47 ∷ decimal v.den) ≡ Ok v
    go true e = whole_read v.num fit.0 ∙ ap Ok (sym (as_whole v (eqb-true v.den 1 e)))
    go false e = ratio_read v (λ one. clash (sym (eq-eqb v.den 1 one) ∙ e)) fit
      where
        clash : true ≡ false → ⊥
        clash e = cc
