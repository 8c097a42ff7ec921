-- A search on its way, as its loop holds it.
use Rattle.std.specs.Prelude.{ℕ, ◌≤◌, List, Option, Some, None}
use Rattle.rational.specs.Rational.{ℚ}
use Rattle.rational.specs.Order.{◌<ℚ◌}
use Rattle.program_law.specs.Program.{Program}
use Rattle.program_law.specs.Columns.{value}
use Rattle.certificate_law.specs.declared.Node.{Node}
use Rattle.branching_law.specs.declared.Turn.{Turn}
use Rattle.branching_law.specs.Nodes.{Search}
use Rattle.branching_law.specs.Search.{IsEarned, branches, points_of}
use Rattle.branching_law.specs.Found.{IsIncumbent}

-- the nodes that were taken, the paths that wait, the next one first, and the incumbent; the branches are within their budget
pub record IsSearching (aim : Search) (p : Program) (bases boxes : ℕ) (turns : List Turn) (nodes : List Node) (waiting : List (List Turn)) (incumbent : Option (List ℚ)) : Type 0 where
  pub earned : IsEarned aim p bases turns nodes waiting
  pub count : branches nodes ≤ boxes
  pub best : IsIncumbent p (points_of nodes) incumbent

-- v is below the incumbent's value, where there is an incumbent
abbrev pub IsBelowIncumbent : Program → ℚ → Option (List ℚ) → Type 0
IsBelowIncumbent p v None = Unit {0}
IsBelowIncumbent p v (Some x) = v <ℚ value p x
