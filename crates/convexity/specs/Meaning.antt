-- What the answer of a symmetric matrix says.
use Rattle.std.specs.Prelude.{◌≡◌, ℕ, ◌≤◌, List, length, All}
use Rattle.rational.specs.Rational.{ℚ, zero_ℚ}
use Rattle.rational.specs.Order.{◌<ℚ◌}
use Rattle.rational.specs.Vectors.{form}
use Rattle.program_law.specs.Squares.{AreSquaresOf}
use Rattle.convexity.specs.declared.Curvature.{Curvature}
use Rattle.convexity.specs.declared.Curvature.TheVariants.{Squares, Negative}

-- squares with positive weights that sum to the matrix, or a vector with a negative form
abbrev pub IsCurvatureOf : List (List ℚ) → Curvature → Type 0
IsCurvatureOf q (Squares ss) = AreSquaresOf q ss
IsCurvatureOf q (Negative v) = form q v v <ℚ zero_ℚ

-- each vector has n entries
abbrev pub HasWidth : ℕ → Curvature → Type 0
HasWidth n (Squares ss) = All (λ s. length s.coef ≡ n) ss
HasWidth n (Negative v) = length v ≡ n

-- there are at most n squares
abbrev pub AreFew : ℕ → Curvature → Type 0
AreFew n (Squares ss) = length ss ≤ n
AreFew n (Negative v) = Unit {0}
