-- A good FARKAS leaf leaves no point in its region, whole or not.
use Rattle.std.specs.Prelude.{◌≡◌, pos, List, [], ◌∷◌, Option, Some, None, IsSome, IfSome, unwrap_or, Bool, true, false, ℕ}
use Rattle.std.proofs.Common.{sym, ◌∙◌, ap, refl, cond}
use Rattle.rational.specs.Rational.{ℚ, zero_ℚ, ◌+ℚ◌, ◌*ℚ◌}
use Rattle.rational.specs.Order.{◌≤ℚ◌}
use Rattle.program_law.proofs.Ring.{ring_by, x0}
use Rattle.algebra.proofs.Polynomial.{◌⊗◌, num}
use Rattle.rational.specs.Tests.{is_positive, is_negative}
use Rattle.rational.proofs.Order.{le_refl, lt_le}
use Rattle.rational.proofs.OrderLaws.{le_of_eq, add-le-add, le_trans, mul-le-mul_left, mul-le-mul_left_of_nonpos, not-le_of_lt}
use Rattle.program_law.proofs.Numbers.{positive_above, negative_below, zero_between, zero_is}
use Rattle.program_law.specs.declared.Row.{Row}
use Rattle.rational.specs.Vectors.{dot, rows_dot}
use Rattle.program_law.specs.Region.{Region}
use Rattle.program_law.specs.Program.{Program, sides}
use Rattle.program_law.specs.Point.{IsWithin}
use Rattle.program_law.specs.Columns.{AllWithin, IsRelaxedPoint}
use Rattle.certificate_law.specs.Leaf.{no_gradient, residual, side_for, HasSide, HaveSides, sides_sum, HasAllSides, total, IsGoodFarkas}
use Rattle.certificate_law.proofs.Multipliers.{multipliers}
use Rattle.program_law.proofs.Sums.{along_zero}

-- y times the low side is at most y times the value, for y above 0; y times the high side, for y below 0
low_side : (y : ℚ) (o : Option ℚ) (t : ℚ) → zero_ℚ ≤ℚ y → IsSome o → IfSome o (λ l. l ≤ℚ t) → (y *ℚ unwrap_or o zero_ℚ) ≤ℚ (y *ℚ t)
low_side y None t z some k = cc
low_side y (Some l) t z some k = mul-le-mul_left z k

high_side : (y : ℚ) (o : Option ℚ) (t : ℚ) → y ≤ℚ zero_ℚ → IsSome o → IfSome o (λ h. t ≤ℚ h) → (y *ℚ unwrap_or o zero_ℚ) ≤ℚ (y *ℚ t)
high_side y None t z some k = cc
high_side y (Some h) t z some k = mul-le-mul_left_of_nonpos z k

one_side : (y : ℚ) (s : Row) (t : ℚ) → HasSide y s → IsWithin s t → (y *ℚ unwrap_or (side_for y s) zero_ℚ) ≤ℚ (y *ℚ t)
one_side y s t h k = by (is_positive y) refl (is_negative y) refl
  where
    by : (a : Bool) → is_positive y ≡ a → (b : Bool) → is_negative y ≡ b → (y *ℚ unwrap_or (cond a s.low s.high) zero_ℚ) ≤ℚ (y *ℚ t)
    by true e b f = low_side y s.low t (lt_le _ _ (positive_above y e)) (h.low e) k.low
    by false e true f = high_side y s.high t (lt_le _ _ (negative_below y f)) (h.high f) k.high
    by false e false f = le_of_eq (none (unwrap_or s.high zero_ℚ) ∙ sym (none t))
      where
        none : (z : ℚ) → y *ℚ z ≡ zero_ℚ
        none z = ap (λ u. u *ℚ z) (zero_is y (zero_between y e f)) ∙ ring_by (z ∷ []) (num (pos 0) ⊗ x0) (num (pos 0)) refl

-- the multipliers times their sides come to at most the multipliers times the values
pub sides_le : (ys : List ℚ) (ss : List Row) (ts : List ℚ) → HaveSides ys ss → AllWithin ss ts → sides_sum ys ss ≤ℚ dot ys ts
sides_le [] ss ts h w = le_refl zero_ℚ
sides_le (y ∷ ys) [] ts h w = absurd h
sides_le (y ∷ ys) (s ∷ ss) [] h w = absurd w
sides_le (y ∷ ys) (s ∷ ss) (t ∷ ts) h w = add-le-add (one_side y s t h.0 w.0) (sides_le ys ss ts h.1 w.1)

pub total_le : (p : Program) (g : ℕ → ℚ) (region : Region) (y x : List ℚ) → HasAllSides p g region y → IsRelaxedPoint p region x → total p g region y ≤ℚ (dot y (rows_dot p.entries x) +ℚ dot (residual p g region y) x)
total_le p g region y x h point =
    add-le-add (sides_le y (sides p) (rows_dot p.entries x) h.rows point.rows) (sides_le (residual p g region y) region x h.columns point.columns)

pub farkas : (p : Program) (region : Region) (y : List ℚ) → IsGoodFarkas p region y → (x : List ℚ) → IsRelaxedPoint p region x → ⊥
farkas p region y good x point =
    not-le_of_lt good.above
    (le_trans (total_le p no_gradient region y x good.has_sides point)
    (le_of_eq (multipliers no_gradient p.entries y region x point.columns ∙ along_zero x)))
