-- What is written for a certificate that is found, and for a search that stops.
use Rattle.std.specs.Prelude.{◌≡◌, ℕ, ◌++◌, Option, Some, None}
use Rattle.frac_core.specs.declared.fractions.Refused.{Refused}
use Rattle.program_law.specs.Program.{Program}
use Rattle.certificate_law.specs.declared.Certificate.{Certificate}
use Rattle.cert_check_law.specs.Check.{checked, answer}
use Rattle.cert_check_law.specs.declared.Checked.{Checked}
use Rattle.cert_check_law.specs.declared.Checked.TheVariants.{Accepted, Rejected, Past}
use Rattle.cert_grammar.specs.Text.{certificate_text}
use Rattle.cert_grammar.specs.Writable.{IsWritable, NumbersFit}
use Rattle.branching.specs.declared.stops.DecideStop.{DecideStop}
use Rattle.branching.specs.declared.stops.DecideStop.TheVariants as halted
use Rattle.qp_answers.specs.Said.{Said, said}
use Rattle.qp_answers.specs.Withheld.{bases_text, boxes_text, check_text, past_text, path_lines}
use Rattle.qp_answers.specs.declared.status.Status.TheVariants as status

-- what a check without a failed test says: accepted, or the operation for which it is withheld
abbrev pub told_by : Option Refused → Checked
told_by None = Accepted
told_by (Some r) = Past r

-- A certificate is written where its check accepts it; where its check is withheld, it follows the withheld text. No check rejects it.
abbrev pub IsCheckedDue : Program → Certificate → Checked → Said → Type 0
IsCheckedDue p c Accepted s = s ≡ said status.Done (certificate_text p c)
IsCheckedDue p c (Past r) s = s ≡ said status.Withheld (check_text r ++ certificate_text p c)
IsCheckedDue p c (Rejected rule place) s = ⊥

-- what is due for a certificate is told by its check
abbrev pub IsFoundDue : Program → Certificate → Said → Type 0
IsFoundDue p c s = IsCheckedDue p c (answer (checked p c)) s

-- the text of a search that stops; want of memory has none
abbrev pub IsStopDue : Program → ℕ → DecideStop → Said → Type 0
IsStopDue p bases (halted.Bases path site) s = s ≡ said status.Withheld (bases_text bases (path_lines p path) site)
IsStopDue p bases (halted.Past path site r) s = s ≡ said status.Withheld (past_text (path_lines p path) site r)
IsStopDue p bases (halted.Boxes n) s = s ≡ said status.Withheld (boxes_text n)
IsStopDue p bases halted.Memory s = ⊥

-- the text of a certificate is read as that certificate: it can be written, and its numbers fit
pub record IsReadable (p : Program) (c : Certificate) : Type 0 where
  pub writable : IsWritable p c
  pub numbers : NumbersFit c
