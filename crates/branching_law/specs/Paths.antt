-- Paths of a search: turns from the root on, each into one of the two regions of a branch.
use Rattle.std.specs.Prelude.{ℕ, ◌<◌, ℤ, List, [], ◌∷◌}
use Rattle.program_law.specs.Region.{Region, left_of, right_of}
use Rattle.program_law.specs.Program.{Program, bounds}
use Rattle.branching_law.specs.declared.Cut.{Cut}
use Rattle.branching_law.specs.declared.Cut.TheVariants.{Below, Above}
use Rattle.branching_law.specs.declared.Turn.{Turn}

-- the region of a branch at column j and k: at most k below, at least k + 1 above
abbrev pub half_of : Cut → Region → ℕ → ℤ → Region
half_of Below region j k = left_of region j k
half_of Above region j k = right_of region j k

-- the region behind a turn
abbrev pub behind : Region → Turn → Region
behind region t = half_of t.cut region t.column t.k

-- the region behind all turns of a path, the first one first
abbrev pub region_behind : Region → List Turn → Region
region_behind region [] = region
region_behind region (t ∷ path) = region_behind (behind region t) path

-- a path's region in a program: its bounds, cut at each turn
abbrev pub region_of : Program → List Turn → Region
region_of p path = region_behind (bounds p) path

abbrev pub below : ℕ → ℤ → Turn
below j k = record { cut = Below; column = j; k = k }

abbrev pub above : ℕ → ℤ → Turn
above j k = record { cut = Above; column = j; k = k }

-- j is the first place at which P holds
pub record IsFirst (P : ℕ → Type 0) (j : ℕ) : Type 0 where
  pub holds : P j
  pub not_before : (i : ℕ) → i < j → ¬ (P i)
