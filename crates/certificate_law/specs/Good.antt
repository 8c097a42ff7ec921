-- Good certificates, and the verdict that each claims.
use Rattle.std.specs.Prelude.{◌≡◌, List, Some, None}
use Rattle.rational.specs.Rational.{ℚ, zero_ℚ}
use Rattle.rational.specs.Order.{◌<ℚ◌}
use Rattle.program_law.specs.declared.Square.{Square}
use Rattle.rational.specs.Vectors.{form}
use Rattle.program_law.specs.Program.{Program, bounds}
use Rattle.program_law.specs.Columns.{IsPoint, value}
use Rattle.program_law.specs.Verdict as verdict
use Rattle.program_law.specs.Verdict.{Verdict}
use Rattle.certificate_law.specs.declared.Node.{Node}
use Rattle.certificate_law.specs.declared.Certificate.{Certificate}
use Rattle.certificate_law.specs.declared.Certificate.TheVariants.{Optimal, Infeasible, Unbounded, NotConvex}
use Rattle.certificate_law.specs.Tree.{IsGoodTree}
use Rattle.program_law.specs.Squares.{AreSquaresOf}
use Rattle.certificate_law.specs.Ray.{IsRay}

-- x is feasible, its value is v, the squares sum to Q, and the tree is good for v on the program's bounds
pub record IsGoodOptimal (p : Program) (x : List ℚ) (v : ℚ) (squares : List Square) (tree : List Node) : Type 0 where
  pub point : IsPoint p (bounds p) x
  pub has_value : value p x ≡ v
  pub has_squares : AreSquaresOf p.pairs squares
  pub bounded : IsGoodTree p (Some v) (bounds p) tree

-- x is feasible, d is a ray, and the squares sum to Q
pub record IsGoodUnbounded (p : Program) (x d : List ℚ) (squares : List Square) : Type 0 where
  pub point : IsPoint p (bounds p) x
  pub ray : IsRay p d
  pub has_squares : AreSquaresOf p.pairs squares

abbrev pub IsGood : Program → Certificate → Type 0
IsGood p (Optimal x v squares tree) = IsGoodOptimal p x v squares tree
IsGood p (Infeasible tree) = IsGoodTree p None (bounds p) tree
IsGood p (Unbounded x d squares) = IsGoodUnbounded p x d squares
IsGood p (NotConvex v) = form p.pairs v v <ℚ zero_ℚ

-- the verdict that a certificate claims
abbrev pub verdict_of : Certificate → Verdict
verdict_of (Optimal x v squares tree) = verdict.Optimal x v
verdict_of (Infeasible tree) = verdict.Infeasible
verdict_of (Unbounded x d squares) = verdict.Unbounded
verdict_of (NotConvex v) = verdict.NotConvex v
