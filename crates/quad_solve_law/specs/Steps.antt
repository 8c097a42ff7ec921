-- Directions that lead down from a point of a form, and price steps along them.
use Rattle.std.specs.Prelude.{◌≡◌, ℕ, List, length, ◌⊎◌, ◌↔◌}
use Rattle.rational.specs.Rational.{ℚ, zero_ℚ, one_ℚ, neg_ℚ, ◌*ℚ◌}
use Rattle.rational.specs.Order.{◌≤ℚ◌, ◌<ℚ◌}
use Rattle.rational.specs.Sums.{entry}
use Rattle.rational.specs.Vectors.{dot, zeros, rows_dot}
use Rattle.equational_law.specs.Form.{Form}
use Rattle.face_descent_law.specs.Step.{IsWithin, IsNearest}
use Rattle.face_descent_law.specs.Small.{slope}

-- d leads down from z: M d = 0, the gradient at z gives it -1, and it lessens only what is above 0
pub record LeadsDown (f : Form) (z d : List ℚ) : Type 0 where
  pub size : length d ≡ length f.cost
  pub equal : rows_dot f.matrix d ≡ zeros (length f.matrix)
  pub falls : dot (slope f z) d ≡ neg_ℚ one_ℚ
  pub lessens : (j : ℕ) → entry d j <ℚ zero_ℚ → zero_ℚ <ℚ entry z j

-- the curvature along d: d^T Q d
abbrev pub curvature : Form → List ℚ → ℚ
curvature f d = dot d (rows_dot f.quadratic d)

-- a price step of length s along d: to the nearest zero or to the line's minimum 1 / d^T Q d, whichever is nearer. So it goes past no
-- zero, s times the curvature is at most 1, and one of them is met.
pub record IsPriceStep (f : Form) (z d : List ℚ) (s : ℚ) : Type 0 where
  pub within : IsWithin z d s
  pub minimum : (s *ℚ curvature f d) ≤ℚ one_ℚ
  pub met : IsNearest z d s ⊎ (s *ℚ curvature f d ≡ one_ℚ)

-- z and w are 0 at the same places
abbrev pub HaveSameSupport : List ℚ → List ℚ → Type 0
HaveSameSupport z w = (j : ℕ) → (entry z j ≡ zero_ℚ) ↔ (entry w j ≡ zero_ℚ)
