-- What is read as a number is the text of that number.
use Rattle.std.proofs.Common.{◌≡◌, ◌≢◌, ℕ, zero, suc, ◌<◌, ◌≤◌, Bool, true, false, cond, List, [], ◌∷◌, ◌++◌, drop, get_or, Result, Ok, Err, refl, sym, ap, ◌∙◌, subst, arith, lit<, codes, ℤ, pos, ◌*ℤ◌}
use Rattle.std.specs.Prelude.{◌&&◌, ◌||◌, ◌==◌, not, nat_lt, unsigned_abs, if◌then◌else◌}
use Rattle.std.specs.List.{position_or_len}
use Rattle.std.specs.Str.{bytes_eq}
use Rattle.std.specs.Str.Parse.{digits_value}
use Rattle.std.specs.Fmt.{decimal, signed_decimal}
use Rattle.std.proofs.lemmas.Bool.{eqb-true, ne_eqb}
use Rattle.std.proofs.lemmas.Bool.Decides.{nat_tests}
use Rattle.std.proofs.lemmas.Slice.Eq.{bytes_eq-Decides}
use Rattle.std.proofs.lemmas.Fmt.{decimal_digit}
use Rattle.std.proofs.lemmas.List.Sums.{split_at_first, passes_at_first}
use Rattle.rational.specs.Whole.{cancel_ℤ}
use Rattle.rational.specs.Rational.{ℚ, fraction, ratio_cross, Fits}
use Rattle.frac_core.specs.Parts.{max_part}
use Rattle.word_arithmetic.specs.Signed.{signed, abs-signed}
use Rattle.frac_core.specs.Text.{text_of}
use Rattle.mps_tokens.specs.declared.fault.NumberFault.{NumberFault}
use Rattle.mps_tokens.specs.declared.fault.NumberFault.TheVariants.{NotNumber, Past}
use Rattle.cert_fields.specs.Parts.{is_byte}
use Rattle.cert_fields.specs.Numbers.{is_numeral, is_denominator, is_negative, without_minus, has_slash, top_of, bottom_of, has_shape, top_value, bottom_value, lowest_number, number_from, number_of}
use Rattle.cert_fields.proofs.NumberTexts.{IsPlain, plain, plain_pos, decimal_back, alone_without, position_below}
use Rattle.cert_fields.proofs.NumbersRead.{spelled, appended, small}

-- ---- what an answer that is a number comes from

pub record IsGiven (t : Bool) (r : Result ℚ NumberFault) (v : ℚ) : Type 0 where
  pub holds : t ≡ true
  pub given : r ≡ Ok v

given_from : (t : Bool) (r : Result ℚ NumberFault) (v : ℚ) → (if t then r else Err NotNumber) ≡ Ok v → IsGiven t r v
given_from true r v e = record { holds = refl; given = e }
given_from false r v e = absurd cc

not_past : (t : Bool) (r : Result ℚ NumberFault) (v : ℚ) → (if t then Err Past else r) ≡ Ok v → (t ≡ false) × (r ≡ Ok v)
not_past true r v e = absurd cc
not_past false r v e = (refl, e)

neither : (t u : Bool) → (t || u) ≡ false → (t ≡ false) × (u ≡ false)
neither true u e = absurd cc
neither false u e = (refl, e)

both : (t u : Bool) → (t && u) ≡ true → (t ≡ true) × (u ≡ true)
both true u e = (refl, e)
both false u e = absurd cc

within : (n : ℕ) → nat_lt max_part n ≡ false → n ≤ max_part
within n e = grind (arith, nat_tests)

num_is : (n : ℤ) (q : ℕ) → 0 < q → (fraction n q).den ≡ q → (fraction n q).num ≡ n
num_is n zero h e = absurd (omega (arith, h))
num_is n (suc k) h e =
    cancel_ℤ (fraction n (suc k)).num n (suc k) h (ratio_cross n (record { size = suc k; some = _ }) ∙ ap (λ d. n *ℤ pos d) e)

-- a number that is read, by its numerals
pub record IsFrom (negative : Bool) (p q : ℕ) (v : ℚ) : Type 0 where
  pub num : v.num ≡ signed negative p
  pub den : v.den ≡ q
  pub top_fits : p ≤ max_part
  pub bottom_fits : q ≤ max_part

lowest_from : (negative : Bool) (p q : ℕ) (v : ℚ) → 0 < q → lowest_number negative p q ≡ Ok v → (v.num ≡ signed negative p) × (v.den ≡ q)
unfolding lowest_number
lowest_from negative p q v some e =
    let f = fraction (signed negative p) q in
    let g = given_from (f.den == q) (Ok f) v e in
    let same : f ≡ v = is_ok f v (Ok f) refl g.given in
    let den : f.den ≡ q = eqb-true f.den q g.holds in
    (ap (λ (v : ℚ). v.num) (sym same) ∙ num_is (signed negative p) q some den, ap (λ (v : ℚ). v.den) (sym same) ∙ den)
  where
    is_ok : (f v : ℚ) (r : Result ℚ NumberFault) → r ≡ Ok f → r ≡ Ok v → f ≡ v
    is_ok f v r e g = cc

from_numerals : (negative : Bool) (p q : ℕ) (v : ℚ) → 0 < q → number_from negative p q ≡ Ok v → IsFrom negative p q v
from_numerals negative p q v some e =
    let n = not_past (nat_lt max_part p || nat_lt max_part q) (lowest_number negative p q) v e in
    let b = neither (nat_lt max_part p) (nat_lt max_part q) n.0 in
    let l = lowest_from negative p q v some n.1 in
    record { num = l.0; den = l.1; top_fits = within p b.0; bottom_fits = within q b.1 }

fits_from : (negative : Bool) (p q : ℕ) (v : ℚ) → IsFrom negative p q v → Fits max_part v
fits_from negative p q v h =
    let size : unsigned_abs v.num ≡ p = ap unsigned_abs h.num ∙ abs-signed negative p in
    (subst (λ (n : ℕ). n ≤ max_part) (sym size) h.top_fits, subst (λ (n : ℕ). n ≤ max_part) (sym h.den) h.bottom_fits)

-- ---- the text of such a number

signed_spelled : (negative : Bool) (p : ℕ) → 0 < p → signed_decimal (signed negative p) ≡ spelled negative (decimal p)
signed_spelled true zero h = absurd (omega (arith, h))
signed_spelled true (suc n) h = refl
signed_spelled false p h = refl

respelled : (bytes : List ℕ) → spelled (is_negative bytes) (without_minus bytes) ≡ bytes
respelled [] = refl
respelled (b ∷ bs) = go (b == 45) refl
  where
    go : (t : Bool) → (b == 45) ≡ t → spelled t (if t then drop 1 (b ∷ bs) else b ∷ bs) ≡ b ∷ bs
    go true e = ap (λ (n : ℕ). n ∷ bs) (sym (eqb-true b 45 e))
    go false e = refl

text_at : (v : ℚ) (t : Bool) → (v.den == 1) ≡ t → text_of v ≡ cond t (signed_decimal v.num) (signed_decimal v.num ++ 47 ∷ decimal v.den)
text_at v t e = ap (λ t. cond t (signed_decimal v.num) (signed_decimal v.num ++ 47 ∷ decimal v.den)) e

whole_text : (negative : Bool) (p : ℕ) (v : ℚ) → IsFrom negative p 1 v → text_of v ≡ signed_decimal (signed negative p)
whole_text negative p v h = text_at v true (ap (λ n. n == 1) h.den) ∙ ap signed_decimal h.num

ratio_text : (negative : Bool) (p q : ℕ) (v : ℚ) → IsFrom negative p q v → q ≢ 1 → text_of v ≡ signed_decimal (signed negative p) ++ 47 ∷ decimal q
ratio_text negative p q v h n =
    text_at v false (ne_eqb v.den 1 (λ e. n (sym h.den ∙ e))) ∙ ap (λ (z : ℤ). signed_decimal z ++ 47 ∷ decimal v.den) h.num ∙ ap (λ d. signed_decimal (signed negative p) ++ 47 ∷ decimal d) h.den

-- what is read of bytes
pub record IsTextOf (bytes : List ℕ) (v : ℚ) : Type 0 where
  pub fits : Fits max_part v
  pub text : text_of v ≡ bytes

zero_back : (v : ℚ) → number_of (codes "0") ≡ Ok v → IsTextOf (codes "0") v
unfolding number_of
zero_back v e =
    let h = from_numerals false 0 1 v (omega arith) e in
    record { fits = fits_from false 0 1 v h; text = whole_text false 0 v h ∙ decimal_digit 0 (lit< tt) }

alone_back : (bytes : List ℕ) (v : ℚ) → has_slash bytes ≡ false → is_numeral (top_of bytes) ≡ true → number_from (is_negative bytes) (top_value bytes) (bottom_value bytes) ≡ Ok v → IsTextOf bytes v
alone_back bytes v none numeral e =
    let negative = is_negative bytes in
    let body = without_minus bytes in
    let top : top_of bytes ≡ body = alone_without body none in
    let plain_body : IsPlain body = plain body (ap is_numeral (sym top) ∙ numeral) in
    let p = digits_value 10 body in
    let one : bottom_value bytes ≡ 1 = rw none refl in
    let from : number_from negative p 1 ≡ Ok v = ap (λ n. number_from negative n 1) (ap (digits_value 10) (sym top)) ∙ ap (number_from negative (top_value bytes)) (sym one) ∙ e in
    let h = from_numerals negative p 1 v (omega arith) from in
    record {
      fits = fits_from negative p 1 v h;
      text = whole_text negative p v h ∙ signed_spelled negative p (plain_pos body plain_body) ∙ ap (spelled negative) (decimal_back body plain_body (small p h.top_fits)) ∙ respelled bytes;
    }

slash_back : (bytes : List ℕ) (v : ℚ) → has_slash bytes ≡ true → is_numeral (top_of bytes) ≡ true → is_denominator (bottom_of bytes) ≡ true → number_from (is_negative bytes) (top_value bytes) (bottom_value bytes) ≡ Ok v → IsTextOf bytes v
slash_back bytes v there numeral under e =
    let negative = is_negative bytes in
    let body = without_minus bytes in
    let top = top_of bytes in
    let bottom = bottom_of bytes in
    let parts = both (is_numeral bottom) (not (bytes_eq bottom (codes "1"))) under in
    let upper : IsPlain top = plain top numeral in
    let lower : IsPlain bottom = plain bottom parts.0 in
    let p = digits_value 10 top in
    let q = digits_value 10 bottom in
    let value : bottom_value bytes ≡ q = rw there refl in
    let from : number_from negative p q ≡ Ok v = ap (number_from negative p) (sym value) ∙ e in
    let h = from_numerals negative p q v (plain_pos bottom lower) from in
    let back : decimal q ≡ bottom = decimal_back bottom lower (small q h.bottom_fits) in
    let not_one : q ≢ 1 = λ one. not_unit bottom (sym back ∙ ap decimal one ∙ decimal_digit 1 (lit< tt)) parts.1 in
    let inside = position_below (is_byte 47) body there in
    let split : body ≡ top ++ 47 ∷ bottom = split_at_first (is_byte 47) body 0 inside ∙ ap (λ (b : ℕ). top ++ b ∷ bottom) (eqb-true (get_or body (position_or_len (is_byte 47) body) 0) 47 (passes_at_first (is_byte 47) body 0 inside)) in
    record {
      fits = fits_from negative p q v h;
      text = ratio_text negative p q v h not_one
          ∙ ap (λ (t : List ℕ). t ++ 47 ∷ decimal q) (signed_spelled negative p (plain_pos top upper) ∙ ap (spelled negative) (decimal_back top upper (small p h.top_fits)))
          ∙ ap (λ (t : List ℕ). spelled negative top ++ 47 ∷ t) back
          ∙ appended negative top (47 ∷ bottom) ∙ ap (spelled negative) (sym split) ∙ respelled bytes;
    }
  where
    not_unit : (bottom : List ℕ) → bottom ≡ 49 ∷ [] → not (bytes_eq bottom (codes "1")) ≡ true → ⊥
    not_unit bottom e n = clash (bytes_eq bottom (codes "1")) ((bytes_eq-Decides bottom (codes "1")).1 e) n
      where
        clash : (t : Bool) → t ≡ true → not t ≡ true → ⊥
        clash true e n = cc
        clash false e n = cc

pub number_back : (bytes : List ℕ) (v : ℚ) → number_of bytes ≡ Ok v → IsTextOf bytes v
unfolding number_of
number_back bytes v e =
    let g = given_from (has_shape bytes) (number_from (is_negative bytes) (top_value bytes) (bottom_value bytes)) v e in
    by_shape (bytes_eq bytes (codes "0")) (is_numeral (top_of bytes)) (has_slash bytes) (is_denominator (bottom_of bytes)) refl refl refl refl g.holds g.given
  where
    zero_case : bytes ≡ codes "0" → IsTextOf bytes v
    zero_case z = subst (λ bs. IsTextOf bs v) (sym z) (zero_back v (ap number_of (sym z) ∙ e))

    by_shape : (z t s d : Bool) → bytes_eq bytes (codes "0") ≡ z → is_numeral (top_of bytes) ≡ t → has_slash bytes ≡ s → is_denominator (bottom_of bytes) ≡ d → (z || (t && (not s || d))) ≡ true
        → number_from (is_negative bytes) (top_value bytes) (bottom_value bytes) ≡ Ok v → IsTextOf bytes v
    by_shape true t s d a b c f shape h = zero_case ((bytes_eq-Decides bytes (codes "0")).0 a)
    by_shape false false s d a b c f shape h = absurd cc
    by_shape false true false d a b c f shape h = alone_back bytes v c b h
    by_shape false true true false a b c f shape h = absurd cc
    by_shape false true true true a b c f shape h = slash_back bytes v c b f h
