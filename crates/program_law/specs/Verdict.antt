-- The verdicts on a program, and when they are true. Each speaks of all whole numbers p and all denominators q.
use Rattle.std.specs.Prelude.{◌≡◌, List, map}
use Rattle.rational.specs.Rational.{ℚ, ratio, zero_ℚ}
use Rattle.rational.specs.Order.{◌≤ℚ◌, ◌<ℚ◌}
use Rattle.rational.specs.Vectors.{form}
use Rattle.program_law.specs.Program.{Program}
use Rattle.program_law.specs.Point.{Point, IsFeasible}
use Rattle.program_law.specs.Value.{value_of}

-- the columns of a point
abbrev pub columns_of : Point → List ℚ
columns_of point = map (λ p. ratio p point.q) point.p

pub data Verdict : Type 0 where
  Optimal : (x : List ℚ) (v : ℚ) → Verdict
  Infeasible : Verdict
  Unbounded : Verdict
  NotConvex : (v : List ℚ) → Verdict

-- a feasible point has these columns and this value, and no feasible point has a smaller value
pub record IsOptimal (program : Program) (x : List ℚ) (v : ℚ) : Type 0 where
  pub point : Point
  pub has_columns : columns_of point ≡ x
  pub feasible : IsFeasible program point
  pub has_value : value_of program point ≡ v
  pub least : (other : Point) → IsFeasible program other → v ≤ℚ value_of program other

-- no point is feasible
abbrev pub IsInfeasible : Program → Type 0
IsInfeasible program = (point : Point) → IsFeasible program point → ⊥

-- some point is feasible, and for every number t some feasible point has a value below t
pub record IsUnbounded (program : Program) : Type 0 where
  pub point : Point
  pub feasible : IsFeasible program point
  pub below : (t : ℚ) → (lower : Point) × IsFeasible program lower × (value_of program lower <ℚ t)

-- v^T Q v is below 0
abbrev pub IsNotConvex : Program → List ℚ → Type 0
IsNotConvex program v = form program.pairs v v <ℚ zero_ℚ

abbrev pub IsTrueOf : Program → Verdict → Type 0
IsTrueOf program (Optimal x v) = IsOptimal program x v
IsTrueOf program Infeasible = IsInfeasible program
IsTrueOf program Unbounded = IsUnbounded program
IsTrueOf program (NotConvex v) = IsNotConvex program v
