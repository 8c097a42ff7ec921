-- Fractions whose denominator is a power of ten.
use Rattle.std.proofs.Common.{◌≡◌, ◌≢◌, ℕ, min, ℤ, pos, negsuc, to_z, of_z, zero, suc, ◌+◌, ◌-◌, ◌*◌, ◌/◌, ◌^◌, ◌<◌, ◌≤◌, ◌*ℤ◌, [], ◌∷◌, Bool, true, false, Ok, Err, Result, refl, sym, ap, ◌∙◌, subst, arith, lit<, lit≤, mul-pos, zero-le, suc-le-suc}
use Rattle.std.specs.Prelude.{unsigned_abs, int_lt}
use Rattle.std.specs.Int.{w128}
use Rattle.std.proofs.lemmas.Int.{ints, unsigned_abs-mul}
use Rattle.std.proofs.lemmas.Nat.{pow-add}
use Rattle.std.proofs.lemmas.Bool.Decides.{nat_tests}
use Rattle.std.proofs.Math.Nat.{pow-le-pow_right, le_trans, mul-le-mul, mul-le-mul_right, one-mul, mul-one, mul_assoc, mul_comm, div-le_self, not-le_of_lt}
use Rattle.algebra.proofs.Polynomial.{◌⊗◌, ◌≐◌, lit}
use Rattle.algebra.proofs.Solver.{ring}
use Rattle.algebra.proofs.Integers.{integers}
use Rattle.rational.specs.Divisors.{gcd_of}
use Rattle.rational.specs.Rational.{ℚ, Fits, fraction, whole, ◌/ℚ◌, abs-quotient, num_of_lowest}
use Rattle.rational.proofs.Fraction.{IsRatio, IsRatio-fraction, equal_by_ratios}
use Rattle.rational.proofs.Fits.{fits_yes, fits_no}
use Rattle.rational.proofs.Pairs.{quotient_is_cross}
use Rattle.rational.proofs.Reciprocals.{whole_lowest, fraction_one, fraction_divided}
use Rattle.frac_core.specs.declared.fractions.PartsFault.{PartsFault}
use Rattle.frac_core.specs.Parts.{max_part}
use Rattle.word_arithmetic.specs.Signed.{signed, abs-signed}
use Rattle.frac_core.specs.Quotient.{quotient_of, signs_differ, parts_of, fitting}
use Rattle.mps_tokens.specs.declared.fault.NumberFault.TheVariants.{Past}
use Rattle.mps_tokens.specs.Numbers.{fitted}
use Rattle.mps_tokens.proofs.Tens.{ten_pos}

-- ---- what fits

pub small_fits : (n : ℤ) (d top : ℕ) → 0 < d → unsigned_abs n ≤ top → d ≤ top → Fits top (fraction n d)
small_fits n d top p h k =
    let parts = fraction_divided n d p in
    let g = gcd_of (unsigned_abs n) d in
    let num : unsigned_abs (fraction n d).num ≡ unsigned_abs n / g = ap unsigned_abs parts.0 ∙ abs-quotient n g in
    (omega (arith, num, div-le_self (unsigned_abs n) g), omega (arith, parts.1, div-le_self d g))

pub fitted_yes : (q : ℚ) → Fits max_part q → fitted q ≡ Ok q
fitted_yes q h = rw (fits_yes max_part q h) refl

pub fitted_no : (q : ℚ) → ¬ (Fits max_part q) → fitted q ≡ Err Past
fitted_no q h = rw (fits_no max_part q h) refl

nonneg_test : (a : ℕ) → int_lt (pos a) (pos 0) ≡ false
nonneg_test a = grind (arith, ints, nat_tests)

positive_sign : (n : ℤ) (d : ℕ) → signed (signs_differ n (pos (suc d))) (unsigned_abs n) ≡ n
positive_sign (pos n) d = rw (nonneg_test n, nonneg_test (suc d)) refl
positive_sign (negsuc n) d = rw (nonneg_test (suc d)) refl

pub parts_of_small : (n : ℤ) (d : ℕ) → 0 < d → unsigned_abs n ≤ max_part → d ≤ max_part → parts_of n (pos d) ≡ Ok (fraction n d)
unfolding quotient_of
parts_of_small n zero p h k = absurd (omega arith)
parts_of_small n (suc d) p h k =
    let same : quotient_of n (pos (suc d)) ≡ fraction n (suc d) = ap (λ (z : ℤ). fraction z (suc d)) (positive_sign n d) in
    ap fitting same ∙ rw (fits_yes max_part (fraction n (suc d)) (small_fits n (suc d) max_part p h k)) refl

-- the machine's parts are these
pub made : (r : Result ℚ PartsFault) (negative : Bool) (top bottom : ℕ) (w : ℤ) → w ≡ signed negative top → top ≤ max_part → 0 < bottom → bottom ≤ max_part
    → r ≡ parts_of (to_z w128 (of_z w128 w)) (to_z w128 bottom) → r ≡ Ok (fraction (signed negative top) bottom)
made r negative top bottom w e h p k is =
    let size : unsigned_abs w ≡ top = ap unsigned_abs e ∙ abs-signed negative top in
    let up : to_z w128 (of_z w128 w) ≡ w = omega (arith, ints) in
    let down : to_z w128 bottom ≡ pos bottom = omega (arith, ints) in
    is ∙ ap (λ (z : ℤ). parts_of z (to_z w128 bottom)) (up ∙ e) ∙ ap (parts_of (signed negative top)) down
    ∙ parts_of_small (signed negative top) bottom p (subst (λ (n : ℕ). n ≤ max_part) (sym (abs-signed negative top)) h) k

pub same_ok : (p q : ℚ) (r : Result ℚ PartsFault) → r ≡ Ok p → r ≡ Ok q → p ≡ q
same_ok p q r e f = cc

-- ---- the same fraction by smaller powers

signed-mul : (b : Bool) (m k : ℕ) → signed b (m * k) ≡ signed b m *ℤ pos k
signed-mul false m k = refl
signed-mul true zero k = omega (arith, ints)
signed-mul true (suc m) zero = omega (arith, ints)
signed-mul true (suc m) (suc k) = omega (arith, ints)

pub cancel_power : (b : Bool) (m p q : ℕ) → 0 < p → 0 < q → fraction (signed b (m * p)) (p * q) ≡ fraction (signed b m) q
cancel_power b m p q h i =
    equal_by_ratios (IsRatio-fraction (signed b (m * p)) (p * q) (mul-pos h i)) (IsRatio-fraction (signed b m) q i)
    (ap (λ (z : ℤ). z *ℤ pos q) (signed-mul b m p)
    ∙ ring integers (signed b m ∷ pos p ∷ pos q ∷ []) (λ m p q. m ⊗ p ⊗ q ≐ m ⊗ (p ⊗ q)) refl)

one_times : (n : ℤ) → n *ℤ pos 1 ≡ n
one_times n = ring integers (n ∷ []) (λ n. n ⊗ lit 1 ≐ n) refl

quotient_ratio : (n : ℤ) (a b : ℕ) → 0 < a → 0 < b → IsRatio (fraction n a /ℚ whole (pos b)) n (a * b)
unfolding whole
quotient_ratio n zero b h i = absurd (omega arith)
quotient_ratio n (suc a) b h i = record {
  d_pos = mul-pos h i;
  same =
      let q = fraction n (suc a) /ℚ whole (pos b) in
      let e = quotient_is_cross n (record { size = suc a; some = suc-le-suc zero-le }) (pos b) (record { size = 1; some = lit< tt }) (λ z. absurd (omega (arith, ints))) in
      e ∙ ap (λ (z : ℤ). z *ℤ pos q.den) (one_times n);
}

pub divided_power : (n : ℤ) (a b : ℕ) → 0 < a → 0 < b → fraction n a /ℚ whole (pos b) ≡ fraction n (a * b)
divided_power n a b h i = equal_by_ratios (quotient_ratio n a b h i) (IsRatio-fraction n (a * b) (mul-pos h i)) refl

pub whole_num : (p : ℕ) → 0 < p → (whole (pos p)).num ≢ pos 0
whole_num p h e =
    let n : (whole (pos p)).num ≡ pos p = ap (λ (q : ℚ). q.num) (sym (fraction_one (pos p))) ∙ num_of_lowest (pos p) 1 (whole_lowest (pos p)) in
    let z : pos p ≡ pos 0 = sym n ∙ e in
    absurd (omega (arith, ints))

pub split_power : (first power : ℕ) → first ≤ power → 10 ^ first * 10 ^ (power - first) ≡ 10 ^ power
split_power first power h =
    let e : first + (power - first) ≡ power = omega arith in
    sym (pow-add 10 first (power - first)) ∙ ap (λ k. 10 ^ k) e

-- a number divided by 10 to more than 76 doesn't fit
abs_cross : (q : ℚ) (n : ℤ) (d : ℕ) → IsRatio q n d → unsigned_abs q.num * d ≡ unsigned_abs n * q.den
abs_cross q n d h = sym (unsigned_abs-mul q.num (pos d)) ∙ ap unsigned_abs h.same ∙ unsigned_abs-mul n (pos q.den)

large_bottom : (x d m y : ℕ) → x * d ≡ m * y → 0 < m → 0 < y → m ≤ max_part → y ≤ max_part → d ≤ max_part * max_part
large_bottom zero d m y e h i j k = absurd (omega (arith, mul-pos h i, e))
large_bottom (suc x) d m y e h i j k =
    let most : m * y ≤ max_part * max_part = mul-le-mul j k in
    let one : 1 * d ≤ suc x * d = mul-le-mul_right d (omega arith) in
    le_trans (subst (λ t. t ≤ suc x * d) (one-mul d) one) (subst (λ t. t ≤ max_part * max_part) (sym e) most)

pub too_fine : (negative : Bool) (m k : ℕ) → 0 < m → m ≤ max_part → 76 < k → fitted (fraction (signed negative m) (10 ^ k)) ≡ Err Past
too_fine negative m k h j above =
    let n = signed negative m in
    let q = fraction n (10 ^ k) in
    let r = IsRatio-fraction n (10 ^ k) (ten_pos k) in
    let size : unsigned_abs n ≡ m = abs-signed negative m in
    let cross : unsigned_abs q.num * 10 ^ k ≡ m * q.den = abs_cross q n (10 ^ k) r ∙ ap (λ s. s * q.den) size in
    let large : 10 ^ 77 ≤ 10 ^ k = pow-le-pow_right {n = 10} (lit< tt) above in
    fitted_no q (λ f. not_both (10 ^ k) large (large_bottom (unsigned_abs q.num) (10 ^ k) m q.den cross h q.lowest.positive j f.1))
  where
    not_both : (p : ℕ) → 10 ^ 77 ≤ p → p ≤ max_part * max_part → ⊥
    not_both p h k = not-le_of_lt (lit< tt) (le_trans h k)

-- a whole number
pub whole_fits : (negative : Bool) (m : ℕ) → m ≤ max_part → fitted (fraction (signed negative m) 1) ≡ Ok (fraction (signed negative m) 1)
whole_fits negative m h =
    fitted_yes (fraction (signed negative m) 1) (small_fits (signed negative m) 1 max_part (lit< tt) (subst (λ (n : ℕ). n ≤ max_part) (sym (abs-signed negative m)) h) (lit≤ tt))

pub whole_past : (negative : Bool) (m : ℕ) → max_part < m → fitted (fraction (signed negative m) 1) ≡ Err Past
whole_past negative m h =
    let n = signed negative m in
    let num : (fraction n 1).num ≡ n = num_of_lowest n 1 (whole_lowest n) in
    let size : unsigned_abs (fraction n 1).num ≡ m = ap unsigned_abs num ∙ abs-signed negative m in
    fitted_no (fraction n 1) (λ f. not-le_of_lt h (subst (λ (s : ℕ). s ≤ max_part) size f.0))

-- ---- m times 10 to the power up - down

pub shift_down : (negative : Bool) (m up down : ℕ) → up ≤ down → fraction (signed negative (m * 10 ^ up)) (10 ^ down) ≡ fraction (signed negative m) (10 ^ (down - up))
shift_down negative m up down h =
    ap (λ (d : ℕ). fraction (signed negative (m * 10 ^ up)) d) (sym (split_power up down h))
    ∙ cancel_power negative m (10 ^ up) (10 ^ (down - up)) (ten_pos up) (ten_pos (down - up))

pub shift_up : (negative : Bool) (m up down : ℕ) → down ≤ up → fraction (signed negative (m * 10 ^ up)) (10 ^ down) ≡ fraction (signed negative (m * 10 ^ (up - down))) 1
shift_up negative m up down h =
    let e : m * 10 ^ up ≡ (m * 10 ^ (up - down)) * 10 ^ down =
    ap (λ p. m * p) (sym (split_power down up h) ∙ mul_comm (10 ^ down) (10 ^ (up - down))) ∙ sym (mul_assoc m (10 ^ (up - down)) (10 ^ down)) in
    ap (λ (t : ℕ). fraction (signed negative t) (10 ^ down)) e
    ∙ ap (λ (d : ℕ). fraction (signed negative (m * 10 ^ (up - down) * 10 ^ down)) d) (sym (mul-one (10 ^ down)))
    ∙ cancel_power negative (m * 10 ^ (up - down)) (10 ^ down) 1 (ten_pos down) (lit< tt)

-- first by one power of ten and then by another
pub lowered_twice : (negative : Bool) (top power first one two : ℕ) (number rest : ℚ) → first ≡ min power 38 → one ≡ 10 ^ first → two ≡ 10 ^ (power - first) → two ≤ max_part
    → number ≡ fraction (signed negative top) one → rest ≡ whole (to_z w128 two) → number /ℚ rest ≡ fraction (signed negative top) (10 ^ power)
lowered_twice negative top power first one two number rest f a b h n r =
    let z : to_z w128 two ≡ pos two = omega (arith, ints) in
    let le : first ≤ power = omega arith in
    rw (n, r, z, a, b) (divided_power (signed negative top) (10 ^ first) (10 ^ (power - first)) (ten_pos first) (ten_pos (power - first))
    ∙ ap (fraction (signed negative top)) (split_power first power le))

pub whole_some : (two k : ℕ) (rest : ℚ) → two ≡ 10 ^ k → two ≤ max_part → rest ≡ whole (to_z w128 two) → rest.num ≢ pos 0
whole_some two k rest b h r e =
    let z : to_z w128 two ≡ pos two = omega (arith, ints) in
    let same : rest ≡ whole (pos two) = r ∙ ap whole z in
    whole_num two (subst (λ (n : ℕ). 0 < n) (sym b) (ten_pos k)) (ap (λ (q : ℚ). q.num) (sym same) ∙ e)
