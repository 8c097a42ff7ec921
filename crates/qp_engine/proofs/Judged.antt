-- What is due, case by case.
use Rattle.std.proofs.Common.{◌≡◌, ℕ, ◌≤◌, ◌<◌, List, length, Ok, Err, subst, codes}
use Rattle.std.proofs.lemmas.Bool.{le-ltb, lt-ltb}
use Rattle.program_law.specs.Program.{Program}
use Rattle.mps_grammar.specs.Words.{word_of}
use Rattle.mps_grammar.specs.Verdict.{Fault}
use Rattle.mps_grammar.specs.Reading.{Spot, read_of, rest_of}
use Rattle.qp_answers.specs.Said.{Said}
use Rattle.qp_engine.specs.Due.{longest, IsDue, IsProgramDue, IsTaskDue}
use Rattle.qp_answers.specs.Answers.{file_due}
use Rattle.qp_words.specs.declared.order.Order.{Order}

pub long_due : (order : Order) (input : List ℕ) (s : Said) → longest < length input → s ≡ file_due 0 (codes "TextLong") → IsDue order input s
unfolding IsDue
long_due order input s long e = rw (lt-ltb longest (length input) long) e

pub fault_due : (order : Order) (input : List ℕ) (fault : Fault) (s : Said) → length input ≤ longest → read_of input ≡ Err fault → s ≡ file_due fault.0 (word_of fault.1) → IsDue order input s
unfolding IsDue
fault_due order input fault s short e is = rw (le-ltb longest (length input) short, e) is

of_program : (order : Order) (input : List ℕ) (p : Program) (spot : Spot) (s : Said) → length input ≤ longest → read_of input ≡ Ok (p, spot)
    → IsProgramDue order input p (rest_of input spot) s → IsDue order input s
unfolding IsDue
of_program order input p spot s short e due = rw (le-ltb longest (length input) short, e) due

pub program_due : (order : Order) (input : List ℕ) (p : Program) (spot : Spot) (bases boxes : ℕ) (s : Said) → length input ≤ longest → read_of input ≡ Ok (p, spot) → bases ≡ order.bases
    → boxes ≡ order.boxes → IsTaskDue order.task bases boxes input p (rest_of input spot) s → IsDue order input s
program_due order input p spot bases boxes s short e same_bases same_boxes due =
    of_program order input p spot s short e (
    subst (λ (n : ℕ). IsTaskDue order.task order.bases n input p (rest_of input spot) s) same_boxes
    (subst (λ (n : ℕ). IsTaskDue order.task n boxes input p (rest_of input spot) s) same_bases due)
    )
