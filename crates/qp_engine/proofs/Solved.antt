-- What is written of a certificate or of a stop is due.
use Rattle.std.proofs.Common.{◌≡◌, inl, ℕ, List}
use Rattle.program_law.specs.Program.{Program}
use Rattle.certificate_law.specs.declared.Certificate.{Certificate}
use Rattle.certificate_law.specs.Good.{IsGood}
use Rattle.certificate_law.proofs.Verdicts.{good_is_true}
use Rattle.cert_grammar.specs.Text.{certificate_text}
use Rattle.cert_grammar.specs.Writable.{IsWritable, NumbersFit}
use Rattle.branching.specs.Decided.{IsFound}
use Rattle.qp_answers.specs.Said.{Said}
use Rattle.qp_answers.specs.Outcomes.{IsFoundDue}
use Rattle.qp_engine.specs.Solving.{IsSolveDue}
use Rattle.qp_engine.specs.Runs.{HasSolved}

-- the text of a good certificate settles the program
pub solved_by : (p : Program) (c : Certificate) (text : List ℕ) → IsGood p c → text ≡ certificate_text p c → HasSolved p text
solved_by p c text good e = record { certificate = c; prints = e; good = good; holds = good_is_true p c good }

pub found_is_due : (p : Program) (bases boxes : ℕ) (c : Certificate) (s : Said) → IsFound p bases boxes c → IsWritable p c → NumbersFit c → IsFoundDue p c s → IsSolveDue p bases boxes s
found_is_due p bases boxes c s found writable numbers due = inl (record { certificate = c; found = found; readable = record { writable = writable; numbers = numbers }; due = due })
