-- Rounding: before a search the bounds of the marked columns are made whole, column by column, a low bound before the high one. It ends as
-- soon as the region is crossed.
use Rattle.std.specs.Prelude.{◌≡◌, ◌⊎◌, ℕ, ◌<◌, ℤ, List, [], ◌∷◌, ◌++◌, Option, Some, None, true}
use Rattle.rational.specs.Rational.{ℚ}
use Rattle.rational.specs.Rounding.{IsFloor}
use Rattle.program_law.specs.declared.Row.{Row}
use Rattle.program_law.specs.Region.{Region, IsCrossedRegion, bounds_at}
use Rattle.program_law.specs.Program.{Program, bounds, marks, is_marked}
use Rattle.program_law.specs.Columns.{IsWhole}
use Rattle.certificate_law.specs.declared.Node.{Node}
use Rattle.certificate_law.specs.declared.Node.TheVariants.{Branch, Cross}
use Rattle.branching_law.specs.declared.Cut.{Cut}
use Rattle.branching_law.specs.declared.Cut.TheVariants.{Below, Above}
use Rattle.branching_law.specs.declared.Turn.{Turn}
use Rattle.branching_law.specs.Paths.{behind, region_of, IsFirst}

abbrev pub IsMarkedAt : Program → ℕ → Type 0
IsMarkedAt p j = is_marked (marks p) j ≡ true

-- some column is marked
abbrev pub IsMarked : Program → Type 0
IsMarked p = (j : ℕ) × IsMarkedAt p j

-- a bound that is there and isn't whole
abbrev pub IsFractional : Option ℚ → Type 0
IsFractional None = ⊥
IsFractional (Some b) = ¬ (IsWhole b)

-- column j is marked, and its low or its high bound isn't whole
pub record HasFractionalBound (p : Program) (region : Region) (j : ℕ) : Type 0 where
  pub marked : IsMarkedAt p j
  pub fractional : IsFractional (bounds_at region j).low ⊎ IsFractional (bounds_at region j).high

-- a bound that is there and isn't whole, and k is its floor
pub record IsBroken (bound : Option ℚ) (k : ℤ) : Type 0 where
  pub value : ℚ
  pub there : bound ≡ Some value
  pub fractional : ¬ (IsWhole value)
  pub floor : IsFloor k value

-- the turn that makes a bound whole: a low bound is raised to the next whole number, which is above its floor; a high bound is lowered to its
-- floor, once the low one is whole
abbrev pub Rounds : Cut → ℤ → Row → Type 0
Rounds Above k b = IsBroken b.low k
Rounds Below k b = ¬ (IsFractional b.low) × IsBroken b.high k

-- the rounding turn that is due in a region: it isn't crossed, and the turn is on the first column that has a bound to be rounded
pub record IsRoundingTurn (p : Program) (region : Region) (t : Turn) : Type 0 where
  pub uncrossed : IsCrossedRegion region → ⊥
  pub first : IsFirst (HasFractionalBound p region) t.column
  pub rounds : Rounds t.cut t.k (bounds_at region t.column)

-- each of the turns is due in the region behind those before it
abbrev pub AreRoundingTurns : Program → Region → List Turn → Type 0
AreRoundingTurns p region [] = Unit {0}
AreRoundingTurns p region (t ∷ turns) = IsRoundingTurn p region t × AreRoundingTurns p (behind region t) turns

-- nothing is left to be rounded: the region is crossed, or no marked column has a bound that isn't whole
abbrev pub IsRounded : Program → Region → Type 0
IsRounded p region = IsCrossedRegion region ⊎ ((j : ℕ) → ¬ (HasFractionalBound p region j))

-- the turns of rounding, from the program's bounds on until nothing is left
pub record IsRounding (p : Program) (turns : List Turn) : Type 0 where
  pub turns_due : AreRoundingTurns p (bounds p) turns
  pub ends : IsRounded p (region_of p turns)

-- rounding on its way, as its loop over the columns holds it: its turns so far are due, and no column before j has a bound to be rounded
pub record IsRoundingTo (p : Program) (turns : List Turn) (j : ℕ) : Type 0 where
  pub turns_due : AreRoundingTurns p (bounds p) turns
  pub whole_before : (i : ℕ) → i < j → ¬ (HasFractionalBound p (region_of p turns) i)

-- a tree below a rounding branch: the side that rounding leaves is crossed at the branch's column
abbrev pub under_turn : Cut → ℕ → ℤ → List Node → List Node
under_turn Above j k nodes = Branch j k ∷ Cross j ∷ nodes
under_turn Below j k nodes = Branch j k ∷ (nodes ++ Cross j ∷ [])

-- a tree below all rounding branches
abbrev pub under_rounding : List Turn → List Node → List Node
under_rounding [] nodes = nodes
under_rounding (t ∷ turns) nodes = under_turn t.cut t.column t.k (under_rounding turns nodes)
