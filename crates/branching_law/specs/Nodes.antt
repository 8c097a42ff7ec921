-- What a search does at a node: it branches there, or closes it as a leaf.
use Rattle.std.specs.Prelude.{◌⊎◌, ℕ, ℤ, List, Contains}
use Rattle.rational.specs.Rational.{ℚ}
use Rattle.rational.specs.Order.{◌≤ℚ◌, ◌<ℚ◌}
use Rattle.rational.specs.Rounding.{IsFloor}
use Rattle.rational.specs.Sums.{entry}
use Rattle.program_law.specs.Region.{Region, IsCrossedAt, IsCrossedRegion}
use Rattle.program_law.specs.Program.{Program, marks}
use Rattle.program_law.specs.Columns.{IsWhole, AreWholeOn, value}
use Rattle.certificate_law.specs.declared.Node.{Node}
use Rattle.certificate_law.specs.declared.Node.TheVariants.{Branch, Bound, Farkas, Cross}
use Rattle.quad_solve_law.specs.Answer.{IsFound, IsEmpty, IsBest}
use Rattle.branching_law.specs.Paths.{IsFirst}
use Rattle.branching_law.specs.Rounding.{IsMarkedAt}

-- a search for a point of least value that keeps the marks, or for any point that keeps them
pub data Search : Type 0 where
  ForBest : Search
  ForPoint : Search

-- x is the point that a node of this region carries: in a search for the best the point of the region's answer, with the least value; in a
-- search for a point the one that ends the feasible chain
abbrev pub Carries : Search → Program → Region → ℕ → List ℚ → Type 0
Carries ForBest p region bases x = (y : List ℚ) × IsBest p region bases x (value p x) y
Carries ForPoint p region bases x = IsFound p region bases x

-- column j is marked, and x isn't whole there
pub record IsFractionalAt (p : Program) (x : List ℚ) (j : ℕ) : Type 0 where
  pub marked : IsMarkedAt p j
  pub fractional : ¬ (IsWhole (entry x j))

-- the branch at x: on the first marked column at which x isn't whole, at its floor there
pub record IsBranch (p : Program) (x : List ℚ) (j : ℕ) (k : ℤ) : Type 0 where
  pub first : IsFirst (IsFractionalAt p x) j
  pub floor : IsFloor k (entry x j)

-- ---- the points that leaves carry

-- x is one of the points, and keeps the marks
pub record IsKept (p : Program) (points : List (List ℚ)) (x : List ℚ) : Type 0 where
  pub among : Contains points x
  pub whole : AreWholeOn (marks p) x

-- v is below the value of each point that keeps the marks
abbrev pub IsBelowKept : Program → List (List ℚ) → ℚ → Type 0
IsBelowKept p points v = (x : List ℚ) → IsKept p points x → v <ℚ value p x

-- v isn't below the value of some point that keeps the marks
abbrev pub IsNotBelowKept : Program → List (List ℚ) → ℚ → Type 0
IsNotBelowKept p points v = (x : List ℚ) × IsKept p points x × (value p x ≤ℚ v)

-- ---- nodes

-- an inner node: a branch at the point that it carries, whose value is below that of each earlier point that keeps the marks
pub record IsInnerNode (aim : Search) (p : Program) (bases : ℕ) (points : List (List ℚ)) (region : Region) (j : ℕ) (k : ℤ) : Type 0 where
  pub uncrossed : IsCrossedRegion region → ⊥
  pub point : List ℚ
  pub carried : Carries aim p region bases point
  pub branch : IsBranch p point j k
  pub below : IsBelowKept p points (value p point)

-- a leaf that is closed with its point: the point keeps the marks, or its value isn't below that of an earlier point that does
pub record IsBoundLeaf (p : Program) (bases : ℕ) (points : List (List ℚ)) (region : Region) (x y : List ℚ) : Type 0 where
  pub uncrossed : IsCrossedRegion region → ⊥
  pub best : IsBest p region bases x (value p x) y
  pub closed : AreWholeOn (marks p) x ⊎ IsNotBelowKept p points (value p x)

-- a leaf whose region has no point, by the multipliers of its answer
pub record IsEmptyLeaf (p : Program) (bases : ℕ) (region : Region) (y : List ℚ) : Type 0 where
  pub uncrossed : IsCrossedRegion region → ⊥
  pub empty : IsEmpty p region bases y

-- a search for a point closes no leaf with its point
abbrev pub IsBoundIn : Search → Program → ℕ → List (List ℚ) → Region → List ℚ → List ℚ → Type 0
IsBoundIn ForBest p bases points region x y = IsBoundLeaf p bases points region x y
IsBoundIn ForPoint p bases points region x y = ⊥

-- What a search does at a node with this region, where the leaves before it carry these points. Each answer is within a budget of
-- strict steps.
abbrev pub IsTaken : Search → Program → ℕ → List (List ℚ) → Region → Node → Type 0
IsTaken aim p bases points region (Branch j k) = IsInnerNode aim p bases points region j k
IsTaken aim p bases points region (Bound x y) = IsBoundIn aim p bases points region x y
IsTaken aim p bases points region (Farkas y) = IsEmptyLeaf p bases region y
IsTaken aim p bases points region (Cross j) = IsFirst (IsCrossedAt region) j
