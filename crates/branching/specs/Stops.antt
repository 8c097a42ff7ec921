-- Why no certificate is found.
use Rattle.std.specs.Prelude.{◌≡◌, ◌⊎◌, ℕ, ◌<◌, List, [], length, Err, ⊤}
use Rattle.std.specs.List.{AllByRecursion}
use Rattle.frac_core.specs.declared.fractions.Refused.{Refused}
use Rattle.program_law.specs.Program.{Program}
use Rattle.convexity.specs.ReductionCalculation.{squares_of}
use Rattle.quad_solve_law.specs.Sites.{RegionSite}
use Rattle.quad_solve.specs.declared.sites.Site.{Site}
use Rattle.quad_solve.specs.declared.sites.Site.TheVariants as sites
use Rattle.quad_solve.specs.declared.sites.RelaxStop.{RelaxStop}
use Rattle.quad_solve.specs.declared.sites.RelaxStop.TheVariants as relaxed
use Rattle.quad_solve.specs.Answers.{IsNamed}
use Rattle.branching_law.specs.declared.Turn.{Turn}
use Rattle.branching_law.specs.Search.{IsSpentTree}
use Rattle.branching_law.specs.Reached.{IsFirstSpentSite, IsPastSite}
use Rattle.branching.specs.declared.stops.DecideStop.{DecideStop}
use Rattle.branching.specs.declared.stops.DecideStop.TheVariants.{Memory, Bases, Boxes, Past}

-- the budget of strict steps is used up at a site that a search reaches, and what comes before it ends within the budgets
pub record IsSpentAt (p : Program) (bases boxes : ℕ) (path : List Turn) (site : Site) : Type 0 where
  pub place : RegionSite
  pub named : IsNamed place site
  pub spent : IsFirstSpentSite p bases boxes path place

-- the operation belongs to a site that a search reaches, and is past
pub record IsPastAt (p : Program) (bases : ℕ) (path : List Turn) (site : Site) (r : Refused) : Type 0 where
  pub place : RegionSite
  pub named : IsNamed place site
  pub past : IsPastSite p bases path place r

-- the squares of Q are past
pub record HasPastSquares (p : Program) (path : List Turn) (site : Site) (r : Refused) : Type 0 where
  pub no_turns : path ≡ []
  pub at_squares : site ≡ sites.Squares
  pub past : squares_of p.pairs ≡ Err r

-- Bases at the first site at which its budget is used up; Past at a reached site, or at the squares; and Boxes where an earned tree has one branch more than the budget
abbrev pub IsDecideStopOf : Program → ℕ → ℕ → DecideStop → Type 0
IsDecideStopOf p bases boxes Memory = ⊤
IsDecideStopOf p bases boxes (Bases path site) = IsSpentAt p bases boxes path site
IsDecideStopOf p bases boxes (Boxes n) = (n ≡ boxes) × IsSpentTree p bases boxes
IsDecideStopOf p bases boxes (Past path site r) = HasPastSquares p path site r ⊎ IsPastAt p bases path site r

-- a stop for want of a budget: not of memory, and not by an operation that is past
abbrev pub IsOfBudget : DecideStop → Type 0
IsOfBudget Memory = ⊥
IsOfBudget (Bases path site) = Unit {0}
IsOfBudget (Boxes n) = Unit {0}
IsOfBudget (Past path site r) = ⊥

-- the turns of a path stand on columns of the program
abbrev pub IsPathIn : Program → List Turn → Type 0
IsPathIn p path = AllByRecursion (λ (t : Turn). t.column < length p.columns) path

abbrev pub HasPathIn : Program → DecideStop → Type 0
HasPathIn p Memory = ⊤
HasPathIn p (Bases path site) = IsPathIn p path
HasPathIn p (Boxes n) = ⊤
HasPathIn p (Past path site r) = IsPathIn p path

-- a region's stop at a path
abbrev pub stop_on : List Turn → RelaxStop → DecideStop
stop_on path relaxed.Memory = Memory
stop_on path (relaxed.Spent site) = Bases path site
stop_on path (relaxed.Past site r) = Past path site r
