-- Numbers by their numerals.
use Rattle.std.proofs.Common.{◌≡◌, ◌≢◌, ℕ, zero, suc, ◌≤◌, Bool, true, false, List, Result, Ok, Err, refl, sym, ap, ◌∙◌, arith, pos, ℤ, codes, to_z, of_z}
use Rattle.std.specs.Prelude.{◌&&◌, ◌==◌, nat_lt, if◌then◌else◌}
use Rattle.std.specs.Int.{w128}
use Rattle.std.specs.List.{list_any, before_first, after_first}
use Rattle.std.specs.Str.{bytes_eq}
use Rattle.std.specs.Str.Parse.{digits_value}
use Rattle.std.proofs.lemmas.Int.{ints}
use Rattle.std.proofs.lemmas.Bool.{eq-eqb, ne_eqb}
use Rattle.std.proofs.lemmas.Bool.Decides.{nat_tests}
use Rattle.std.proofs.lemmas.Slice.Eq.{bytes_eq-Decides}
use Rattle.rational.specs.Rational.{ℚ, fraction, whole}
use Rattle.rational.proofs.Wholes.{den-whole}
use Rattle.rational.proofs.Reciprocals.{fraction_one}
use Rattle.frac_core.specs.declared.fractions.PartsFault.{PartsFault}
use Rattle.frac_core.specs.Parts.{max_part}
use Rattle.word_arithmetic.specs.Signed.{signed}
use Rattle.frac_core.specs.Quotient.{parts_of}
use Rattle.mps_tokens.specs.declared.fault.NumberFault.{NumberFault}
use Rattle.mps_tokens.specs.declared.fault.NumberFault.TheVariants.{NotNumber}
use Rattle.mps_tokens.proofs.PowerValues.{made, same_ok}
use Rattle.cert_fields.specs.Parts.{is_byte}
use Rattle.cert_fields.specs.Numbers.{is_numeral, is_denominator, is_negative, without_minus, has_slash, top_of, bottom_of, has_shape, top_value, lowest_number, number_from, number_of}

chosen : (t : Bool) (v : ℚ) → t ≡ true → (if t then Ok v else Err NotNumber) ≡ Ok v
chosen t v e = rw e refl

refused : (t : Bool) (v : ℚ) → t ≡ false → (if t then Ok v else Err NotNumber) ≡ Err NotNumber
refused t v e = rw e refl

pub lowest_fails : (negative : Bool) (top bottom : ℕ) (w : ℤ) (r : Result ℚ PartsFault) (f : PartsFault) → w ≡ signed negative top → top ≤ max_part → bottom ≤ max_part
    → r ≡ parts_of (to_z w128 (of_z w128 w)) (to_z w128 bottom) → r ≡ Err f → Err NotNumber ≡ lowest_number negative top bottom
unfolding lowest_number
lowest_fails negative top zero w r f e h k is err = sym (refused ((whole (pos 0)).den == 0) (whole (pos 0)) (ap (λ d. d == 0) (den-whole (pos 0))))
lowest_fails negative top (suc b) w r f e h k is err =
    let ok = made r negative top (suc b) w e h (omega arith) k is in
    absurd (cc (ok, err))

same_test : (v q : ℚ) (b : ℕ) (t : Bool) → v ≡ q → (v.den == b) ≡ t → (if t then Ok v else Err NotNumber) ≡ (if q.den == b then Ok q else Err NotNumber)
same_test v q b t e f = rw (← e, f) refl

from_word : (d : ℤ) (v : ℕ) → d ≡ pos v → v ≤ max_part → of_z w128 d ≡ v
from_word d v e h = omega (arith, ints, e, h)

decided : (negative : Bool) (top bottom : ℕ) (w : ℤ) (r : Result ℚ PartsFault) (v : ℚ) (t : Bool) → w ≡ signed negative top → top ≤ max_part → bottom ≤ max_part
    → r ≡ parts_of (to_z w128 (of_z w128 w)) (to_z w128 bottom) → r ≡ Ok v → (v.den == bottom) ≡ t → (if t then Ok v else Err NotNumber) ≡ lowest_number negative top bottom
unfolding lowest_number
decided negative top zero w r v t e h k is ok test = absurd (cc (is, ok))
decided negative top (suc b) w r v t e h k is ok test =
    same_test v (fraction (signed negative top) (suc b)) (suc b) t (same_ok v _ r ok (made r negative top (suc b) w e h (omega arith) k is)) test

pub lowest_passes : (negative : Bool) (top bottom : ℕ) (w d : ℤ) (r : Result ℚ PartsFault) (v : ℚ) → w ≡ signed negative top → top ≤ max_part → bottom ≤ max_part
    → r ≡ parts_of (to_z w128 (of_z w128 w)) (to_z w128 bottom) → r ≡ Ok v → d ≡ pos v.den → v.den ≤ max_part → of_z w128 d ≡ bottom → Ok v ≡ lowest_number negative top bottom
lowest_passes negative top bottom w d r v e h k is ok den small test =
    decided negative top bottom w r v true e h k is ok (eq-eqb v.den bottom (sym (from_word d v.den den small) ∙ test))

pub lowest_differs : (negative : Bool) (top bottom : ℕ) (w d : ℤ) (r : Result ℚ PartsFault) (v : ℚ) → w ≡ signed negative top → top ≤ max_part → bottom ≤ max_part
    → r ≡ parts_of (to_z w128 (of_z w128 w)) (to_z w128 bottom) → r ≡ Ok v → d ≡ pos v.den → v.den ≤ max_part → of_z w128 d ≢ bottom → Err NotNumber ≡ lowest_number negative top bottom
lowest_differs negative top bottom w d r v e h k is ok den small test =
    decided negative top bottom w r v false e h k is ok (ne_eqb v.den bottom (λ n. test (from_word d v.den den small ∙ n)))

-- ---- a number without a slash

pub not_above : (n : ℕ) → n ≤ max_part → nat_lt max_part n ≡ false
not_above n h = grind (arith, nat_tests)

pub whole_lowest : (negative : Bool) (n : ℕ) → lowest_number negative n 1 ≡ Ok (whole (signed negative n))
unfolding lowest_number
whole_lowest negative n =
    ap (λ (q : ℚ). if q.den == 1 then Ok q else Err NotNumber) (fraction_one (signed negative n))
    ∙ chosen ((whole (signed negative n)).den == 1) (whole (signed negative n)) (ap (λ d. d == 1) (den-whole (signed negative n)))

pub whole_number : (negative : Bool) (digits : List ℕ) (n : ℕ) (w : ℤ) (v : ℚ) → is_numeral digits ≡ true → n ≡ digits_value 10 digits → n ≤ max_part → w ≡ signed negative n → v ≡ whole (to_z w128 (of_z w128 w))
    → Ok v ≡ (if is_numeral digits then number_from negative (digits_value 10 digits) 1 else Err NotNumber)
whole_number negative digits n w v numeral value small e is =
    let small' : nat_lt max_part (digits_value 10 digits) ≡ false = ap (nat_lt max_part) (sym value) ∙ not_above n small in
    let up : to_z w128 (of_z w128 w) ≡ signed negative (digits_value 10 digits) = back (to_z w128 (of_z w128 w)) w (signed negative n) _ (in_word negative n w e small) e (ap (signed negative) value) in
    ap Ok (is ∙ ap whole up) ∙ sym (rw (numeral, small', whole_lowest negative (digits_value 10 digits)) refl)
  where
    in_word : (negative : Bool) (n : ℕ) (w : ℤ) → w ≡ signed negative n → n ≤ max_part → to_z w128 (of_z w128 w) ≡ w
    in_word true n w e h = omega (arith, ints, e, h)
    in_word false n w e h = omega (arith, ints, e, h)

    back : (a b c d : ℤ) → a ≡ b → b ≡ c → c ≡ d → a ≡ d
    back a b c d p q r = p ∙ q ∙ r

-- ---- the parts of a spelling

pub zero_number : (bytes : List ℕ) (v : ℚ) → bytes_eq bytes (codes "0") ≡ true → v ≡ whole (pos 0) → Ok v ≡ number_of bytes
unfolding number_of
zero_number bytes v e is = ap Ok is ∙ sym (whole_lowest false 0) ∙ sym (ap number_of (same bytes e))
  where
    same : (bytes : List ℕ) → bytes_eq bytes (codes "0") ≡ true → bytes ≡ codes "0"
    same bytes e = (bytes_eq-Decides bytes (codes "0")).0 e

shape_without : (bytes : List ℕ) → bytes_eq bytes (codes "0") ≡ false → has_slash bytes ≡ false → top_of bytes ≡ without_minus bytes → has_shape bytes ≡ is_numeral (without_minus bytes)
shape_without bytes e f t = rw (e, f, t) (or_true (is_numeral (without_minus bytes)))
  where
    or_true : (b : Bool) → (b && true) ≡ b
    or_true true = refl
    or_true false = refl

pub without_slash : (bytes body : List ℕ) (negative : Bool) (r : Result ℚ NumberFault) → bytes_eq bytes (codes "0") ≡ false → negative ≡ is_negative bytes → body ≡ without_minus bytes → list_any (is_byte 47) body ≡ false → before_first (is_byte 47) body ≡ body
    → r ≡ (if is_numeral body then number_from negative (digits_value 10 body) 1 else Err NotNumber) → r ≡ number_of bytes
unfolding number_of
without_slash bytes body negative r differs n b absent alone is =
    let slash : has_slash bytes ≡ false = ap (list_any (is_byte 47)) (sym b) ∙ absent in
    let top : top_of bytes ≡ without_minus bytes = ap (before_first (is_byte 47)) (sym b) ∙ alone ∙ b in
    let value : top_value bytes ≡ digits_value 10 body = ap (digits_value 10) (top ∙ sym b) in
    let shape : has_shape bytes ≡ is_numeral body = shape_without bytes differs slash top ∙ ap is_numeral (sym b) in
    is ∙ sym (rw (shape, value, slash, ← n) refl)

pub with_slash : (bytes body top bottom : List ℕ) (negative : Bool) (r : Result ℚ NumberFault) → bytes_eq bytes (codes "0") ≡ false → negative ≡ is_negative bytes → body ≡ without_minus bytes → list_any (is_byte 47) body ≡ true
    → top ≡ before_first (is_byte 47) body → bottom ≡ after_first (is_byte 47) body
    → r ≡ (if is_numeral top && is_denominator bottom then number_from negative (digits_value 10 top) (digits_value 10 bottom) else Err NotNumber) → r ≡ number_of bytes
unfolding number_of
with_slash bytes body top bottom negative r differs n b there t u is =
    let slash : has_slash bytes ≡ true = ap (list_any (is_byte 47)) (sym b) ∙ there in
    let top' : top_of bytes ≡ top = ap (before_first (is_byte 47)) (sym b) ∙ sym t in
    let bottom' : bottom_of bytes ≡ bottom = ap (after_first (is_byte 47)) (sym b) ∙ sym u in
    is ∙ sym (rw (differs, slash, top', bottom', ← n) refl)
