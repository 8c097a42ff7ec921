-- How a run is to end for its task and its input, and what it is to write.
use Rattle.std.specs.Prelude.{◌≡◌, ℕ, Bool, true, false, ◌+◌, List, length, drop, Option, Some, None, Result, Ok, Err, nat_lt, codes}
use Rattle.program_law.specs.Program.{Program}
use Rattle.cert_check_law.specs.Check.{checked, answer}
use Rattle.mps_tokens.specs.Lines.{raw_lines}
use Rattle.mps_grammar.specs.Words.{word_of}
use Rattle.mps_grammar.specs.Verdict.{Fault}
use Rattle.mps_grammar.specs.Reading.{Spot, read_of, rest_of}
use Rattle.mps_writer_law.specs.Canonical.{text_of_program}
use Rattle.cert_text_law.specs.Reading.{Answer}
use Rattle.cert_text_law.specs.Reading as reading
use Rattle.qp_answers.specs.Said.{Said, said}
use Rattle.qp_answers.specs.Answers.{answer_due, certificate_word, file_due}
use Rattle.qp_engine.specs.Solving.{IsSolveDue}
use Rattle.qp_words.specs.declared.order.Order.{Order}
use Rattle.qp_words.specs.declared.order.Task.{Task}
use Rattle.qp_words.specs.declared.order.Task.TheVariants.{Check, Write, Solve, Sample}
use Rattle.qp_answers.specs.declared.status.Status.TheVariants as status

-- the most bytes of an input
abbrev pub longest : ℕ
longest = 1073741824

-- ---- check

abbrev pub certificate_due : Program → Answer → Said
certificate_due p (Err fault) = file_due fault.0 (certificate_word fault.1)
certificate_due p (Ok c) = answer_due (answer (checked p c))

-- the certificate begins at the first line behind the program that is neither blank nor a comment
abbrev pub check_due : Program → List ℕ → Option Spot → Said
check_due p input None = file_due (length (raw_lines input) + 1) (codes "CertEnd")
check_due p input (Some spot) = certificate_due p (reading.read_of p spot.1 (drop spot.0 input))

-- ---- write and solve: nothing but blank lines and comments may stand behind the program

abbrev pub write_due : Program → Said
write_due p = said status.Done (text_of_program p)

-- ---- an order

-- what may be due for a task on a program, within budgets of strict steps and of branches; the input goes on behind the program at a
-- spot, or nowhere
abbrev pub IsTaskDue : Task → ℕ → ℕ → List ℕ → Program → Option Spot → Said → Type 0
IsTaskDue Check bases boxes input p more s = s ≡ check_due p input more
IsTaskDue Write bases boxes input p None s = s ≡ write_due p
IsTaskDue Write bases boxes input p (Some more) s = s ≡ file_due more.1 (codes "SectionOrder")
IsTaskDue Solve bases boxes input p None s = IsSolveDue p bases boxes s
IsTaskDue Solve bases boxes input p (Some more) s = s ≡ file_due more.1 (codes "SectionOrder")
IsTaskDue Sample bases boxes input p more s = ⊥

abbrev pub IsProgramDue : Order → List ℕ → Program → Option Spot → Said → Type 0
IsProgramDue order input p more s = IsTaskDue order.task order.bases order.boxes input p more s

abbrev pub IsReadDue : Order → List ℕ → Result (Program × Spot) Fault → Said → Type 0
IsReadDue order input (Err fault) s = s ≡ file_due fault.0 (word_of fault.1)
IsReadDue order input (Ok r) s = IsProgramDue order input r.0 (rest_of input r.1) s

abbrev pub IsDueBy : Bool → Order → List ℕ → Said → Type 0
IsDueBy true order input s = s ≡ file_due 0 (codes "TextLong")
IsDueBy false order input s = IsReadDue order input (read_of input) s

-- what may be due for an order that reads an input
unfoldable pub IsDue : Order → List ℕ → Said → Type 0
IsDue order input s = IsDueBy (nat_lt longest (length input)) order input s
