-- The paths and the sites that a search reaches.
use Rattle.std.specs.Prelude.{ℕ, ◌≤◌, List, [], ◌∷◌}
use Rattle.frac_core.specs.Parts.{max_part}
use Rattle.frac_core.specs.Operations.{IsPast}
use Rattle.frac_core.specs.declared.fractions.Refused.{Refused}
use Rattle.program_law.specs.Region.{IsCrossedRegion}
use Rattle.program_law.specs.Program.{Program}
use Rattle.certificate_law.specs.declared.Node.{Node}
use Rattle.quad_solve_law.specs.Sites.{RegionSite, AtForm, AtFeasible, AtRay, AtFace, AtPrice, IsReached, IsOperationAt, IsSpentAt, IsFirstSpent}
use Rattle.branching_law.specs.declared.Turn.{Turn}
use Rattle.branching_law.specs.Paths.{region_of}
use Rattle.branching_law.specs.Nodes.{Search, ForBest, ForPoint}
use Rattle.branching_law.specs.Search.{IsEarned, branches}

-- the sites of feasibility alone
abbrev pub IsFeasibilitySite : RegionSite → Type 0
IsFeasibilitySite AtForm = Unit {0}
IsFeasibilitySite (AtFeasible b) = Unit {0}
IsFeasibilitySite (AtRay b) = ⊥
IsFeasibilitySite (AtFace z) = ⊥
IsFeasibilitySite (AtPrice z b) = ⊥

-- the sites that a search asks for: below the root of a search for a point those of feasibility alone. Without nodes the path is the root.
abbrev pub IsAsked : Search → List Node → RegionSite → Type 0
IsAsked ForBest nodes site = Unit {0}
IsAsked ForPoint [] site = Unit {0}
IsAsked ForPoint (n ∷ ns) site = IsFeasibilitySite site

-- A search comes to this path: an earned tree so far has it as the first that is open, and all leaves before it are closed. The answers of
-- the nodes before it are within the budget of strict steps; nothing is asked of its own.
pub record IsReachedPath (p : Program) (bases : ℕ) (path : List Turn) : Type 0 where
  pub aim : Search
  pub turns : List Turn
  pub nodes : List Node
  pub open_paths : List (List Turn)
  pub earned : IsEarned aim p bases turns nodes (path ∷ open_paths)

-- a site of the calculation of a reached path's region, which isn't crossed
pub record IsReachedSite (p : Program) (bases : ℕ) (path : List Turn) (site : RegionSite) : Type 0 where
  pub comes : IsReachedPath p bases path
  pub uncrossed : IsCrossedRegion (region_of p path) → ⊥
  pub asked : IsAsked comes.aim comes.nodes site
  pub reached : IsReached p (region_of p path) site

-- the budget of strict steps is used up at a reached site
pub record IsSpentSite (p : Program) (bases : ℕ) (path : List Turn) (site : RegionSite) : Type 0 where
  pub reached : IsReachedSite p bases path site
  pub spent : IsSpentAt p (region_of p path) bases site

-- the first site at which the budget of strict steps is used up: what comes before it in its region ends within the budget, and the tree that
-- comes to its path has at most so many branches
pub record IsFirstSpentSite (p : Program) (bases boxes : ℕ) (path : List Turn) (site : RegionSite) : Type 0 where
  pub reached : IsReachedSite p bases path site
  pub first : IsFirstSpent p (region_of p path) bases site
  pub few : branches reached.comes.nodes ≤ boxes

-- an operation that is past belongs to a reached site
pub record IsPastSite (p : Program) (bases : ℕ) (path : List Turn) (site : RegionSite) (r : Refused) : Type 0 where
  pub reached : IsReachedSite p bases path site
  pub stands : IsOperationAt p (region_of p path) site r
  pub past : IsPast max_part r
