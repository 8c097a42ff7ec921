-- What multipliers of a form's equations show, over its n columns.
use Rattle.std.specs.Prelude.{◌≡◌, ◌≢◌, ℕ, List, length, All}
use Rattle.rational.specs.Rational.{ℚ, zero_ℚ}
use Rattle.rational.specs.Order.{◌≤ℚ◌, ◌<ℚ◌}
use Rattle.rational.specs.Sums.{entry}
use Rattle.rational.specs.Vectors.{dot, combine, gradient}
use Rattle.equational_law.specs.Form.{Form}
use Rattle.equational_law.specs.Solutions.{IsNotNegative}

-- there is no solution: y^T M is not below 0, and y · r is
pub record IsRefutation (n : ℕ) (f : Form) (y : List ℚ) : Type 0 where
  pub size : length y ≡ length f.right
  pub not_negative : All IsNotNegative (combine n y f.matrix)
  pub below : dot y f.right <ℚ zero_ℚ

-- z is optimal: y^T M is at most the gradient Q z + c, and equal to it where z isn't 0
pub record IsOptimality (n : ℕ) (f : Form) (z y : List ℚ) : Type 0 where
  pub size : length y ≡ length f.right
  pub at_most : (j : ℕ) → entry (combine n y f.matrix) j ≤ℚ entry (gradient f.quadratic f.cost z) j
  pub on_support : (j : ℕ) → entry z j ≢ zero_ℚ → entry (combine n y f.matrix) j ≡ entry (gradient f.quadratic f.cost z) j
