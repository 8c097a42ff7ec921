-- Exact numbers: what their tests say, and how far a direction that falls leads down.
use Rattle.std.specs.Prelude.{◌≡◌, ℕ, ℤ, pos, negsuc, suc, ◌*ℤ◌, neg_ℤ, ◌≤ℤ◌, ◌<ℤ◌, ◌+◌, ◌*◌, ◌≤◌, ◌<◌, true, false, int_lt, int_le, unsigned_abs, [], ◌∷◌}
use Rattle.std.specs.Ordering.{int_eq}
use Rattle.std.proofs.Common.{lit<, arith, sym, subst, ◌∙◌, ap, refl}
use Rattle.std.proofs.lemmas.Int.{ints}
use Rattle.std.proofs.lemmas.Bool.Decides.{nat_tests}
use Rattle.std.proofs.Math.Nat.{mul-le-mul_left}
use Rattle.algebra.proofs.Polynomial.{minus, ◌⊗◌, ◌⊕◌, ◌⊝◌, ◌≐◌, ◌≼◌, ◌≺◌, lit}
use Rattle.algebra.proofs.Certificate.{prove, given, weight, ◌⊞◌, ◌⊠◌, ◌⇐◌}
use Rattle.rational.specs.Whole.{diff, diff_neg, pos-diff, diffs, same_diff}
use Rattle.rational.specs.Divisors.{gcd_of, gcd-zero, gcd_comm}
use Rattle.rational.specs.Rational.{ℚ, ◌+ℚ◌, ◌-ℚ◌, ◌*ℚ◌, neg_ℚ, zero_ℚ, whole, ratio, bottom, ◌*⁺◌, Positive, ratio_parts, same_ℚ}
use Rattle.rational.specs.Order.{◌≤ℚ◌, ◌<ℚ◌}
use Rattle.rational.proofs.Ratios.{ratio_mul, ratio_neg}
use Rattle.rational.proofs.Fraction.{IsRatio-whole, IsRatio-ratio}
use Rattle.rational.proofs.Field.{whole-+ℤ}
use Rattle.rational.proofs.Order.{ordered_rationals, le_by_ratios}
use Rattle.rational.proofs.Wholes.{num-whole, den-whole}
use Rattle.rational.specs.Tests.{is_zero, is_positive, is_negative, is_le}

-- u + k d is at least u where k and d are not below 0, and at most u where d is not above 0
pub le_more : {k d : ℚ} (u : ℚ) → zero_ℚ ≤ℚ k → zero_ℚ ≤ℚ d → u ≤ℚ (u +ℚ k *ℚ d)
le_more {k} {d} u h a = prove ordered_rationals (u ∷ k ∷ d ∷ []) (λ u k d. u ≼ u ⊕ k ⊗ d ⇐ given (lit 0 ≼ k) ⊠ given (lit 0 ≼ d)) refl h a

pub le_less : {k d : ℚ} (u : ℚ) → zero_ℚ ≤ℚ k → d ≤ℚ zero_ℚ → (u +ℚ k *ℚ d) ≤ℚ u
le_less {k} {d} u h a = prove ordered_rationals (u ∷ k ∷ d ∷ []) (λ u k d. u ⊕ k ⊗ d ≼ u ⇐ given (lit 0 ≼ k) ⊠ given (d ≼ lit 0)) refl h a

pub whole_le : (m n : ℤ) → m ≤ℤ n → whole m ≤ℚ whole n
whole_le m n h = le_by_ratios (IsRatio-whole m) (IsRatio-whole n) (omega (arith, ints))

-- ---- tests
pub positive_above : (q : ℚ) → is_positive q ≡ true → zero_ℚ <ℚ q
positive_above q e = record {
  lt = subst (λ a. (a *ℤ pos q.den) <ℤ (q.num *ℤ pos (whole (pos 0)).den)) (sym (num-whole (pos 0)))
      (subst (λ (a : ℕ). (pos 0 *ℤ pos q.den) <ℤ (q.num *ℤ pos a)) (sym (den-whole (pos 0))) (by q.num q.den e));
}
  where
    by : (n : ℤ) (d : ℕ) → int_lt (pos 0) n ≡ true → (pos 0 *ℤ pos d) <ℤ (n *ℤ pos 1)
    by n d e = grind (arith, ints, nat_tests)

pub negative_below : (q : ℚ) → is_negative q ≡ true → q <ℚ zero_ℚ
negative_below q e = record {
  lt = subst (λ a. (q.num *ℤ pos (whole (pos 0)).den) <ℤ (a *ℤ pos q.den)) (sym (num-whole (pos 0)))
      (subst (λ (a : ℕ). (q.num *ℤ pos a) <ℤ (pos 0 *ℤ pos q.den)) (sym (den-whole (pos 0))) (by q.num q.den e));
}
  where
    by : (n : ℤ) (d : ℕ) → int_lt n (pos 0) ≡ true → (n *ℤ pos 1) <ℤ (pos 0 *ℤ pos d)
    by n d e = grind (arith, ints, nat_tests)

pub above_positive : (q : ℚ) → zero_ℚ <ℚ q → is_positive q ≡ true
above_positive q h = by q.num q.den (subst (λ (a : ℕ). (pos 0 *ℤ pos q.den) <ℤ (q.num *ℤ pos a)) (den-whole (pos 0))
    (subst (λ a. (a *ℤ pos q.den) <ℤ (q.num *ℤ pos (whole (pos 0)).den)) (num-whole (pos 0)) h.lt))
  where
    by : (n : ℤ) (d : ℕ) → (pos 0 *ℤ pos d) <ℤ (n *ℤ pos 1) → int_lt (pos 0) n ≡ true
    by n d h = grind (arith, ints, nat_tests)

pub below_negative : (q : ℚ) → q <ℚ zero_ℚ → is_negative q ≡ true
below_negative q h = by q.num q.den (subst (λ (a : ℕ). (q.num *ℤ pos a) <ℤ (pos 0 *ℤ pos q.den)) (den-whole (pos 0))
    (subst (λ a. (q.num *ℤ pos (whole (pos 0)).den) <ℤ (a *ℤ pos q.den)) (num-whole (pos 0)) h.lt))
  where
    by : (n : ℤ) (d : ℕ) → (n *ℤ pos 1) <ℤ (pos 0 *ℤ pos d) → int_lt n (pos 0) ≡ true
    by n d h = grind (arith, ints, nat_tests)

pub zero_is : (q : ℚ) → is_zero q ≡ true → q ≡ zero_ℚ
zero_is q e =
    let n : q.num ≡ pos 0 = by q.num e in
    same_ℚ q zero_ℚ (n ∙ sym (num-whole (pos 0))) (one q.num q.den n q.lowest.coprime ∙ sym (den-whole (pos 0)))
  where
    by : (n : ℤ) → int_eq n (pos 0) ≡ true → n ≡ pos 0
    by n e = grind (arith, ints, nat_tests)

    one : (n : ℤ) (d : ℕ) → n ≡ pos 0 → gcd_of (unsigned_abs n) d ≡ 1 → d ≡ 1
    one n d e h = sym (gcd-zero d) ∙ gcd_comm d 0 ∙ ap (λ (n : ℤ). gcd_of (unsigned_abs n) d) (sym e) ∙ h

pub is_zero_zero : is_zero zero_ℚ ≡ true
is_zero_zero = ap (λ (n : ℤ). int_eq n (pos 0)) (num-whole (pos 0))

-- neither above nor below 0
pub zero_between : (q : ℚ) → is_positive q ≡ false → is_negative q ≡ false → is_zero q ≡ true
zero_between q a b = by q.num a b
  where
    by : (n : ℤ) → int_lt (pos 0) n ≡ false → int_lt n (pos 0) ≡ false → int_eq n (pos 0) ≡ true
    by n a b = grind (arith, ints, nat_tests)

pub le_tested : (p q : ℚ) → is_le p q ≡ true → p ≤ℚ q
le_tested p q e = record { le = by (p.num *ℤ pos q.den) (q.num *ℤ pos p.den) e }
  where
    by : (m n : ℤ) → int_le m n ≡ true → m ≤ℤ n
    by m n e = grind (arith, ints, nat_tests)

pub le_test : (p q : ℚ) → p ≤ℚ q → is_le p q ≡ true
le_test p q h = by (p.num *ℤ pos q.den) (q.num *ℤ pos p.den) h.le
  where
    by : (m n : ℤ) → m ≤ℤ n → int_le m n ≡ true
    by m n h = grind (arith, ints, nat_tests)

pub lt_tested : (p q : ℚ) → is_le p q ≡ false → q <ℚ p
lt_tested p q e = record { lt = by (p.num *ℤ pos q.den) (q.num *ℤ pos p.den) e }
  where
    by : (m n : ℤ) → int_le m n ≡ false → n <ℤ m
    by m n e = grind (arith, ints, nat_tests)

pub lt_test : (p q : ℚ) → q <ℚ p → is_le p q ≡ false
lt_test p q h = by (p.num *ℤ pos q.den) (q.num *ℤ pos p.den) h.lt
  where
    by : (m n : ℤ) → n <ℤ m → int_le m n ≡ false
    by m n h = grind (arith, ints, nat_tests)

-- ---- far enough along a direction that falls, the value is below any number
ratio_le : (a : ℤ) (b : Positive) (c : ℤ) (d : Positive) → (a *ℤ pos d.size) ≤ℤ (c *ℤ pos b.size) → ratio a b ≤ℚ ratio c d
ratio_le a b c d h = le_by_ratios (IsRatio-ratio a b) (IsRatio-ratio c d) h

-- a number is at most the size of its numerator
at_most_size : (r : ℚ) → r ≤ℚ whole (pos (unsigned_abs r.num))
unfolding whole
at_most_size r = subst (λ z. z ≤ℚ whole (pos (unsigned_abs r.num))) (ratio_parts r)
    (ratio_le r.num (bottom r) (pos (unsigned_abs r.num)) _ (by r.num r.den r.lowest.positive))
  where
    by : (n : ℤ) (d : ℕ) → 0 < d → (n *ℤ pos 1) ≤ℤ (pos (unsigned_abs n) *ℤ pos d)
    by (pos n) d h = omega (arith, ints, mul-le-mul_left n h)
    by (negsuc n) d h = omega (arith, ints)

abbrev single : Positive
single = record { size = 1; some = lit< tt }

flipped : (n : ℕ) → neg_ℤ (pos n) ≡ diff 0 n
flipped n = ap neg_ℤ (pos-diff n) ∙ diff_neg n 0

-- k times a number below 0, where k is at least m times its denominator
far_below : (e : ℚ) (k m : ℕ) → is_negative e ≡ true → m * e.den ≤ k → (whole (pos k) *ℚ e) ≤ℚ neg_ℚ (whole (pos m))
unfolding whole
far_below e k m h big =
    subst (λ z. (whole (pos k) *ℚ z) ≤ℚ neg_ℚ (whole (pos m))) (ratio_parts e)
    (subst (λ z. z ≤ℚ neg_ℚ (whole (pos m))) (sym (ratio_mul (pos k) single e.num (bottom e)))
    (subst (λ z. ratio (pos k *ℤ e.num) (single *⁺ bottom e) ≤ℚ z) (sym (ratio_neg (pos m) single))
    (ratio_le (pos k *ℤ e.num) (single *⁺ bottom e) (neg_ℤ (pos m)) single (by e.num e.den h big))))
  where
    below : (x y : ℕ) → y ≤ x → (neg_ℤ (pos x) *ℤ pos 1) ≤ℤ neg_ℤ (pos y)
    below x y h = omega (arith, ints)

    product : (a : ℕ) → pos k *ℤ negsuc a ≡ neg_ℤ (pos (k * suc a))
    product a = omega (arith, ints)

    other : (d : ℕ) → neg_ℤ (pos m) *ℤ pos (1 * d) ≡ neg_ℤ (pos (m * d))
    other d = rw (flipped m, flipped (m * d)) (simp diffs (same_diff _ _ _ _ (omega arith)))

    by : (n : ℤ) (d : ℕ) → int_lt n (pos 0) ≡ true → m * d ≤ k → ((pos k *ℤ n) *ℤ pos 1) ≤ℤ (neg_ℤ (pos m) *ℤ pos (1 * d))
    by (pos n) d h big = absurd (no n h)
      where
        no : (n : ℕ) → int_lt (pos n) (pos 0) ≡ true → ⊥
        no n h = grind (arith, ints, nat_tests)
    by (negsuc a) d h big =
        let more : k * 1 ≤ k * suc a = mul-le-mul_left k (omega arith) in
        subst (λ z. (z *ℤ pos 1) ≤ℤ (neg_ℤ (pos m) *ℤ pos (1 * d))) (sym (product a))
        (subst (λ z. (neg_ℤ (pos (k * suc a)) *ℤ pos 1) ≤ℤ z) (sym (other d)) (below (k * suc a) (m * d) (omega arith)))

-- u + k e < t, where e < 0 and k is at least this
pub falls : (u e t : ℚ) (k : ℕ) → e <ℚ zero_ℚ → (unsigned_abs (u -ℚ t).num + 1) * e.den ≤ k → (u +ℚ whole (pos k) *ℚ e) <ℚ t
falls u e t k h big =
    let m = unsigned_abs (u -ℚ t).num in
    prove ordered_rationals (u ∷ t ∷ (whole (pos k) *ℚ e) ∷ whole (pos m) ∷ whole (pos (m + 1)) ∷ [])
    (λ u t f m n. u ⊕ f ≺ t ⇐ given (f ≼ minus n) ⊞ given (u ⊝ t ≼ m) ⊞ given (m ⊕ lit 1 ≐ n) ⊞ weight 1) refl
    (far_below e k (m + 1) (below_negative e h) big) (at_most_size (u -ℚ t)) (sym (whole-+ℤ (pos m) (pos 1)))

pub two_differs : (q : ℚ) → q ≡ whole (pos 2) → q.num ≡ pos 0 → ⊥
unfolding whole ratio gcd_of
two_differs q e z = clash (sym (ap (λ (q : ℚ). q.num) e) ∙ z)
  where
    clash : pos 2 ≡ pos 0 → ⊥
    clash e = cc
