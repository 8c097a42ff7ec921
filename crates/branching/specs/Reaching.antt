-- What a search comes to: the path at hand, and how a search for a point ends.
use Rattle.std.specs.Prelude.{◌≡◌, ℕ, ◌<◌, ◌≤◌, List, ◌∷◌, length, Option, Some, None, true, false}
use Rattle.rational.specs.Rational.{ℚ}
use Rattle.program_law.specs.Region.{IsCrossedRegion}
use Rattle.program_law.specs.Program.{Program, marks}
use Rattle.program_law.specs.Columns.{AreWholeOn}
use Rattle.quad_solve_law.specs.Answer.{IsFound}
use Rattle.certificate_law.specs.declared.Node.{Node}
use Rattle.branching_law.specs.declared.Turn.{Turn}
use Rattle.branching_law.specs.Nodes.{Search, ForPoint}
use Rattle.branching_law.specs.Search.{IsEarned, branches}
use Rattle.search_steps.specs.declared.progress.Progress.{Progress}
use Rattle.branching.specs.declared.point.Outcome.{Outcome}
use Rattle.branching.specs.declared.point.Outcome.TheVariants.{Found, More, Done}
use Rattle.search_steps.specs.Progressing.{IsOnWay, work_left}

-- the path that waits first in a search with at most so many branches
pub record IsPathOf (aim : Search) (p : Program) (bases boxes : ℕ) (path : List Turn) : Type 0 where
  pub turns : List Turn
  pub nodes : List Node
  pub waiting : List (List Turn)
  pub earned : IsEarned aim p bases turns nodes (path ∷ waiting)
  pub few : branches nodes ≤ boxes

-- a point that keeps the marks, at the path at hand
pub record IsEndedBy (p : Program) (bases boxes : ℕ) (x : List ℚ) (progress : Progress) : Type 0 where
  pub way : IsOnWay ForPoint p bases boxes true progress
  pub uncrossed : IsCrossedRegion progress.trail.walk.region → ⊥
  pub found : IsFound p progress.trail.walk.region bases x
  pub whole : AreWholeOn (marks p) x
  pub size : length x ≡ length p.columns

-- a search ends with a point, or with no path left
abbrev pub EndsIn : Program → ℕ → ℕ → Option (List ℚ) → Progress → Type 0
EndsIn p bases boxes None progress = IsOnWay ForPoint p bases boxes false progress
EndsIn p bases boxes (Some x) progress = IsEndedBy p bases boxes x progress

-- what a node makes of the search; where a path is left, less work is left
abbrev pub IsTakenTo : Program → ℕ → ℕ → Progress → Progress → Outcome → Type 0
IsTakenTo p bases boxes old new (Found x) = IsEndedBy p bases boxes x new
IsTakenTo p bases boxes old new More = IsOnWay ForPoint p bases boxes true new × (work_left boxes new < work_left boxes old)
IsTakenTo p bases boxes old new Done = IsOnWay ForPoint p bases boxes false new
