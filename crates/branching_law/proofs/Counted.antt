-- How many whole numbers lie within two bounds.
use Rattle.std.specs.Prelude.{◌≡◌, ◌↔◌, ℕ, ◌<◌, ℤ, pos, negsuc, ◌+ℤ◌, ◌-ℤ◌, ◌≤ℤ◌, Some, [], ◌∷◌}
use Rattle.std.proofs.Common.{refl, arith}
use Rattle.std.proofs.lemmas.Int.{ints}
use Rattle.algebra.proofs.Polynomial.{◌⊗◌, ◌≼◌, lit}
use Rattle.algebra.proofs.Certificate.{prove, given, ◌⇐◌}
use Rattle.algebra.proofs.IntegerOrder.{ordered_integers}
use Rattle.rational.specs.Rational.{ℚ, whole}
use Rattle.rational.specs.Order.{◌≤ℚ◌}
use Rattle.rational.specs.Rounding.{floor_of, ceiling_of, IsCeiling}
use Rattle.rational.proofs.Fraction.{IsRatio-self, IsRatio-whole}
use Rattle.rational.proofs.Floors.{floor-le}
use Rattle.rational.proofs.Order.{le_by_ratios}
use Rattle.rational.proofs.OrderLaws.{le_trans}
use Rattle.rational.proofs.Rounding.{IsFloor-floor_of, IsCeiling-ceiling_of}
use Rattle.program_law.proofs.Numbers.{whole_le}
use Rattle.branching_law.specs.Wholes.{count_to, wholes_between}
use Rattle.branching_law.proofs.Floors.{ceiling_at_most, floor_at_least}

le-ceiling : (z : ℤ) (a : ℚ) → IsCeiling z a → a ≤ℚ whole z
le-ceiling z a h =
    le_by_ratios (IsRatio-self a) (IsRatio-whole z)
    (prove ordered_integers (z ∷ a.num ∷ pos a.den ∷ []) (λ z n d. n ⊗ lit 1 ≼ z ⊗ d ⇐ given (n ≼ z ⊗ d)) refl h.above)

abbrev IsPlace : ℤ → ℕ → ℤ → Type 0
IsPlace first count z = (i : ℕ) × (i < count) × (z ≡ first +ℤ pos i)

place : (first last z : ℤ) → first ≤ℤ z → z ≤ℤ last → IsPlace first (count_to (last -ℤ first)) z
place first last z h k = by (z -ℤ first) (last -ℤ first) refl refl
  where
    by : (d e : ℤ) → (z -ℤ first) ≡ d → (last -ℤ first) ≡ e → IsPlace first (count_to e) z
    by (pos i) (pos n) a b = (i, omega (arith, ints), omega (arith, ints))
    by (pos i) (negsuc n) a b = absurd (bad i n a b)
      where
        bad : (i n : ℕ) → (z -ℤ first) ≡ pos i → (last -ℤ first) ≡ negsuc n → ⊥
        bad i n a b = omega (arith, ints)
    by (negsuc i) e a b = absurd (bad i a)
      where
        bad : (i : ℕ) → (z -ℤ first) ≡ negsuc i → ⊥
        bad i a = omega (arith, ints)

placed : (first last z : ℤ) → IsPlace first (count_to (last -ℤ first)) z → (first ≤ℤ z) × (z ≤ℤ last)
placed first last z h = by (last -ℤ first) refl h
  where
    by : (e : ℤ) → (last -ℤ first) ≡ e → IsPlace first (count_to e) z → (first ≤ℤ z) × (z ≤ℤ last)
    by (pos n) b h = let l = h.1 in let e = h.2 in (omega (arith, ints, l, e), omega (arith, ints, l, e))
    by (negsuc n) b h = absurd (bad h.0 h.1)
      where
        bad : (i : ℕ) → i < 0 → ⊥
        bad i l = omega arith

pub counted_wholes : (l h : ℚ) (z : ℤ) → ((l ≤ℚ whole z) × (whole z ≤ℚ h)) ↔ IsPlace (ceiling_of l) (wholes_between (Some l) (Some h)) z
counted_wholes l h z = (
  λ w. place (ceiling_of l) (floor_of h) z (ceiling_at_most z l w.0) (floor_at_least z h w.1),
  λ w.
      let b = placed (ceiling_of l) (floor_of h) z w in (
        le_trans (le-ceiling (ceiling_of l) l (IsCeiling-ceiling_of l)) (whole_le (ceiling_of l) z b.0),
        le_trans (whole_le z (floor_of h) b.1) (floor-le (floor_of h) h (IsFloor-floor_of h)),
      ),
)
