-- The certificate that a search finds, within a budget of strict steps and one of branches.
use Rattle.std.specs.Prelude.{◌≡◌, ◌⊎◌, ℕ, ◌≤◌, List, [], ◌∷◌, ◌++◌, Option, Some, None}
use Rattle.rational.specs.Rational.{ℚ, zero_ℚ}
use Rattle.rational.specs.Order.{◌≤ℚ◌, ◌<ℚ◌}
use Rattle.program_law.specs.declared.Square.{Square}
use Rattle.rational.specs.Vectors.{form}
use Rattle.program_law.specs.Region.{IsCrossedRegion}
use Rattle.program_law.specs.Program.{Program, bounds, marks}
use Rattle.program_law.specs.Columns.{AreWholeOn, value}
use Rattle.program_law.specs.Squares.{AreSquaresOf}
use Rattle.certificate_law.specs.declared.Node.{Node}
use Rattle.certificate_law.specs.declared.Certificate.{Certificate}
use Rattle.certificate_law.specs.declared.Certificate.TheVariants.{Optimal, Infeasible, Unbounded, NotConvex}
use Rattle.quad_solve_law.specs.Answer.{IsFound, IsFalling}
use Rattle.branching_law.specs.declared.Turn.{Turn}
use Rattle.branching_law.specs.Paths.{region_of}
use Rattle.branching_law.specs.Rounding.{IsMarked, under_rounding}
use Rattle.branching_law.specs.Nodes.{Search, ForPoint, IsKept, IsBelowKept}
use Rattle.branching_law.specs.Search.{IsEarned, branches, points_of}

-- ---- the incumbent

-- x is the first of the points that keep the marks and have the least value among those that do
pub record IsFirstLeast (p : Program) (points : List (List ℚ)) (x : List ℚ) : Type 0 where
  pub before : List (List ℚ)
  pub later : List (List ℚ)
  pub among : points ≡ before ++ x ∷ later
  pub whole : AreWholeOn (marks p) x
  pub below_before : IsBelowKept p before (value p x)
  pub not_above_later : (w : List ℚ) → IsKept p later w → value p x ≤ℚ value p w

-- the incumbent of the points: that one, or none where no point keeps the marks
abbrev pub IsIncumbent : Program → List (List ℚ) → Option (List ℚ) → Type 0
IsIncumbent p points None = (x : List ℚ) → ¬ (IsKept p points x)
IsIncumbent p points (Some x) = IsFirstLeast p points x

-- ---- the certificate

-- what the form Q comes to: squares, or a vector along which it curves down
pub data Reduced : Type 0 where
  Convex : List Square → Reduced
  Curved : List ℚ → Reduced

-- the squares sum to Q, or the form of the vector is below 0
abbrev pub IsReductionOf : List (List ℚ) → Reduced → Type 0
IsReductionOf q (Convex squares) = AreSquaresOf q squares
IsReductionOf q (Curved v) = form q v v <ℚ zero_ℚ

-- no column is marked, and the answer of the program's bounds is a point and a ray
pub record IsFallingProgram (p : Program) (bases : ℕ) (squares : List Square) (c : Certificate) : Type 0 where
  pub unmarked : ¬ (IsMarked p)
  pub uncrossed : IsCrossedRegion (bounds p) → ⊥
  pub point : List ℚ
  pub ray : List ℚ
  pub falling : IsFalling p (bounds p) bases point ray
  pub certificate : c ≡ Unbounded point ray squares

-- a search for a point comes to one that keeps the marks; the ray is that of the root's answer
pub record IsFallingAt (p : Program) (bases boxes : ℕ) (squares : List Square) (c : Certificate) : Type 0 where
  pub turns : List Turn
  pub nodes : List Node
  pub path : List Turn
  pub open_paths : List (List Turn)
  pub earned : IsEarned ForPoint p bases turns nodes (path ∷ open_paths)
  pub count : branches nodes ≤ boxes
  pub uncrossed : IsCrossedRegion (region_of p path) → ⊥
  pub point : List ℚ
  pub found : IsFound p (region_of p path) bases point
  pub whole : AreWholeOn (marks p) point
  pub start : List ℚ
  pub ray : List ℚ
  pub falling : IsFalling p (region_of p turns) bases start ray
  pub certificate : c ≡ Unbounded point ray squares

-- the incumbent is optimal; without one there is no point
abbrev pub decided : Program → List Square → Option (List ℚ) → List Node → Certificate
decided p squares None tree = Infeasible tree
decided p squares (Some x) tree = Optimal x (value p x) squares tree

-- all leaves of an earned tree are closed
pub record IsDecided (p : Program) (bases boxes : ℕ) (squares : List Square) (c : Certificate) : Type 0 where
  pub aim : Search
  pub turns : List Turn
  pub nodes : List Node
  pub earned : IsEarned aim p bases turns nodes []
  pub count : branches nodes ≤ boxes
  pub incumbent : Option (List ℚ)
  pub best : IsIncumbent p (points_of nodes) incumbent
  pub certificate : c ≡ decided p squares incumbent (under_rounding turns nodes)

-- the certificate that is found of a program with this reduction of Q
abbrev pub IsFoundOf : Program → Reduced → ℕ → ℕ → Certificate → Type 0
IsFoundOf p (Curved v) bases boxes c = c ≡ NotConvex v
IsFoundOf p (Convex squares) bases boxes c =
    IsFallingProgram p bases squares c ⊎ IsFallingAt p bases boxes squares c ⊎ IsDecided p bases boxes squares c
