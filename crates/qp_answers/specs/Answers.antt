-- What is written for words and for an input that aren't taken, and for what a check says.
use Rattle.std.specs.Prelude.{ℕ, List, ◌++◌, codes}
use Rattle.std.specs.Fmt.{decimal}
use Rattle.cert_check_law.specs.declared.Checked.{Checked}
use Rattle.cert_check_law.specs.declared.Checked.TheVariants.{Accepted, Rejected, Past}
use Rattle.cert_grammar.specs.declared.kinds.CertKind.{CertKind}
use Rattle.cert_grammar.specs.declared.kinds.CertKind.TheVariants as cert
use Rattle.qp_answers.specs.Said.{Said, said}
use Rattle.qp_answers.specs.Withheld.{check_text}
use Rattle.qp_answers.specs.declared.status.Status.TheVariants as status

abbrev pub usage_line : List ℕ
usage_line = codes "usage: qp solve|check|write|sample [--bases N] [--boxes N] [--kind K] [--number N]\n"

-- where the words aren't those of a task
abbrev pub usage_due : Said
usage_due = said status.Usage usage_line

-- ---- faults of the input

-- an input that isn't taken: the line and the kind of its fault
abbrev pub file_due : ℕ → List ℕ → Said
file_due line kind = said status.FileRefused (codes "FILE " ++ (decimal line ++ (codes " " ++ (kind ++ codes "\n"))))

abbrev pub certificate_word : CertKind → List ℕ
certificate_word cert.CertEnd = codes "CertEnd"
certificate_word cert.CertAfter = codes "CertAfter"
certificate_word cert.CertLine = codes "CertLine"
certificate_word cert.CertName = codes "CertName"
certificate_word cert.CertPast = codes "CertPast"
certificate_word cert.CertNumber = codes "CertNumber"
certificate_word cert.CertOrder = codes "CertOrder"
certificate_word cert.CertMany = codes "CertMany"

-- ---- a check

-- the answer of the checking calculation: accepted, a rule and its place, or an operation whose result doesn't fit
abbrev pub answer_due : Checked → Said
answer_due Accepted = said status.Done (codes "ACCEPTED\n")
answer_due (Rejected rule place) = said status.Rejected (codes "REJECTED " ++ (decimal rule ++ (codes " " ++ (decimal place ++ codes "\n"))))
answer_due (Past r) = said status.Withheld (check_text r)
