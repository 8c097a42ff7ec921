-- A check as it is kept, and how far it has come.
use Rattle.std.specs.Prelude.{◌≡◌, ℕ, ◌+◌, ◌≤◌, List, length, Option, Bool, Result, Ok, Err}
use Rattle.rational.specs.Rational.{ℚ}
use Rattle.program_law.specs.Program.{Program, bounds}
use Rattle.program_law.specs.Region.{Region}
use Rattle.program_regions.specs.Descents.{Descended}
use Rattle.cert_check_law.specs.declared.Event.{Event}
use Rattle.certificate_law.specs.Limits.{most_branches}
use Rattle.check_nodes.specs.Walk.{at_hand}
use Rattle.check_progress.specs.Progress.{Progress}
use Rattle.check_lines.specs.declared.checks.Checking.{Checking}
use Rattle.check_lines.specs.declared.fronts.Front.{Front}
use Rattle.check_lines.specs.declared.openings.Kind.TheVariants as kinds
use Rattle.check_lines.specs.declared.openings.Opened.{Opened}
use Rattle.check_lines.specs.Fronts.{told, IsFrontOf}
use Rattle.check_lines.specs.Openings.{stage_of, IsOpenedOf}

-- the regions that wait, where a region is at hand or none is; or the first event
abbrev pub waiting_in : Result Bool Event → Descended (Option ℚ) → Result (List Region) Event
waiting_in (Ok more) walk = Ok (at_hand more walk)
waiting_in (Err e) walk = Err e

-- how far a check has come by its parts
abbrev pub progress_of : Front → Opened → ℕ → Result Bool Event → Descended (Option ℚ) → Progress
progress_of f o node left walk = record { claim = f.claim; told = told f; stage = stage_of o; node = node; waiting = waiting_in left walk }

abbrev pub progress : Checking → Progress
progress c = progress_of c.front c.opened c.node c.left c.walk

-- It is a check for the program: its vectors and its region have the program's lengths, there is room for all cuts, and the region is that
-- of the program's bounds before the tree.
pub record IsCheckFor (p : Program) (c : Checking) : Type 0 where
  pub front : IsFrontOf p c.front
  pub opened : IsOpenedOf p c.opened
  pub width : length c.walk.region ≡ length p.columns
  pub room : most_branches + 1 ≤ c.walk.room
  pub whole : c.opened.kind ≡ kinds.Head → c.walk.region ≡ bounds p
