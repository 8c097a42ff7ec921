-- Linear problems: equations M z = r with r at least 0, in unknowns that are at least 0; and a unit column for each equation, so that
-- the unit columns alone are a first basis. The unit columns cost 1 and those of M cost 0: a solution that costs nothing solves M z = r.
use Rattle.std.specs.Prelude.{◌≡◌, ℕ, ◌+◌, ◌-◌, List, length, All, nat_lt, if◌then◌else◌}
use Rattle.rational.specs.Rational.{ℚ, zero_ℚ, one_ℚ}
use Rattle.rational.specs.Order.{◌≤ℚ◌, ◌<ℚ◌}
use Rattle.rational.specs.Vectors.{dot, unit_vector, rows_dot, combine, column, HasColumns}

-- how many columns M has, its rows, and the right side r
pub record Problem : Type 0 where
  pub given : ℕ
  pub rows : List (List ℚ)
  pub right : List ℚ

-- how many equations there are
abbrev pub height : Problem → ℕ
height p = length p.right

-- how many columns there are, the unit columns among them
abbrev pub width : Problem → ℕ
width p = p.given + height p

-- the lengths fit, and r is at least 0
pub record IsProblem (p : Problem) : Type 0 where
  pub rows : length p.rows ≡ height p
  pub columns : HasColumns p.given p.rows
  pub nonneg : All (λ x. zero_ℚ ≤ℚ x) p.right

-- column j: the columns of M come first, and the unit column of each equation after them
abbrev pub column_of : Problem → ℕ → List ℚ
column_of p j = if nat_lt j p.given then column j p.rows else unit_vector (height p) (j - p.given)

-- what column j costs
abbrev pub cost_of : Problem → ℕ → ℚ
cost_of p j = if nat_lt j p.given then zero_ℚ else one_ℚ

-- z solves M z = r, and is at least 0
pub record IsSolution (p : Problem) (z : List ℚ) : Type 0 where
  pub size : length z ≡ p.given
  pub same : rows_dot p.rows z ≡ p.right
  pub nonneg : All (λ x. zero_ℚ ≤ℚ x) z

-- y shows that there is no such z: y^T M is at least 0, and y · r is below 0
pub record IsFarkas (p : Problem) (y : List ℚ) : Type 0 where
  pub size : length y ≡ height p
  pub nonneg : All (λ x. zero_ℚ ≤ℚ x) (combine p.given y p.rows)
  pub below : dot y p.right <ℚ zero_ℚ
