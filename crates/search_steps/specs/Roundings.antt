-- Rounding on its way, as it is kept.
use Rattle.std.specs.Prelude.{◌≡◌, ℕ}
use Rattle.std.specs.List.{AllByRecursion}
use Rattle.program_law.specs.Program.{Program}
use Rattle.branching_law.specs.declared.Turn.{Turn}
use Rattle.branching_law.specs.Paths.{region_of}
use Rattle.branching_law.specs.Rounding.{IsRounding, IsRoundingTo}
use Rattle.branching_law.specs.Sizes.{IsBranchNumber}
use Rattle.search_steps.specs.declared.rounding.Rounding.{Rounding}

-- the region is the one behind the turns, and the number of each turn may stand in a branch
pub record IsTurned (p : Program) (r : Rounding) : Type 0 where
  pub region : r.region ≡ region_of p r.turns
  pub numbers : AllByRecursion (λ (t : Turn). IsBranchNumber t.k) r.turns

-- rounding has come to column j
pub record HasRounded (p : Program) (j : ℕ) (r : Rounding) : Type 0 where
  pub kept : IsTurned p r
  pub to : IsRoundingTo p r.turns j

-- rounding has ended
pub record HasEnded (p : Program) (r : Rounding) : Type 0 where
  pub kept : IsTurned p r
  pub rounding : IsRounding p r.turns
