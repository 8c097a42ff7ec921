-- What may be written for a program that is to be decided.
use Rattle.std.specs.Prelude.{◌⊎◌, ℕ}
use Rattle.program_law.specs.Program.{Program}
use Rattle.certificate_law.specs.declared.Certificate.{Certificate}
use Rattle.branching.specs.Decided.{IsFound}
use Rattle.branching.specs.Stops.{IsDecideStopOf}
use Rattle.branching.specs.declared.stops.DecideStop.{DecideStop}
use Rattle.qp_answers.specs.Said.{Said}
use Rattle.qp_answers.specs.Outcomes.{IsFoundDue, IsReadable, IsStopDue}

-- a certificate is found within the budgets, its text is read as it, and it is due
pub record IsSolved (p : Program) (bases boxes : ℕ) (s : Said) : Type 0 where
  pub certificate : Certificate
  pub found : IsFound p bases boxes certificate
  pub readable : IsReadable p certificate
  pub due : IsFoundDue p certificate s

-- none is found, and the text of a stop is due
pub record IsWithheld (p : Program) (bases boxes : ℕ) (s : Said) : Type 0 where
  pub stop : DecideStop
  pub stops : IsDecideStopOf p bases boxes stop
  pub due : IsStopDue p bases stop s

abbrev pub IsSolveDue : Program → ℕ → ℕ → Said → Type 0
IsSolveDue p bases boxes s = IsSolved p bases boxes s ⊎ IsWithheld p bases boxes s
