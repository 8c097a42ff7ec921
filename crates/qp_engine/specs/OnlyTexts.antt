-- Texts that are withheld for an operation of the search that is past: these alone aren't determined by the input.
use Rattle.std.specs.Prelude.{◌≡◌, ℕ, List, Ok}
use Rattle.frac_core.specs.declared.fractions.Refused.{Refused}
use Rattle.program_law.specs.Program.{Program}
use Rattle.mps_grammar.specs.Reading.{Spot, read_of}
use Rattle.quad_solve.specs.declared.sites.Site.{Site}
use Rattle.branching_law.specs.declared.Turn.{Turn}
use Rattle.branching.specs.Stops.{IsDecideStopOf}
use Rattle.branching.specs.declared.stops.DecideStop.TheVariants.{Past}
use Rattle.qp_answers.specs.Said.{Said}
use Rattle.qp_answers.specs.Outcomes.{IsStopDue}
use Rattle.qp_words.specs.declared.order.Order.{Order}

-- the text of a stop at an operation that is past
pub record IsPastDue (p : Program) (bases boxes : ℕ) (s : Said) : Type 0 where
  pub path : List Turn
  pub site : Site
  pub refused : Refused
  pub stops : IsDecideStopOf p bases boxes (Past path site refused)
  pub due : IsStopDue p bases (Past path site refused) s

-- the same of the program of an input, within the budgets of an order
pub record IsPastOf (order : Order) (input : List ℕ) (s : Said) : Type 0 where
  pub program : Program
  pub behind : Spot
  pub reads : read_of input ≡ Ok (program, behind)
  pub past : IsPastDue program order.bases order.boxes s
