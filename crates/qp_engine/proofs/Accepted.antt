-- What is written of a certificate is accepted behind its program.
use Rattle.std.proofs.Common.{◌≡◌, ℕ, ◌+◌, ◌≤◌, ◌↔◌, Bool, true, false, List, [], ◌∷◌, ◌++◌, length, Option, Some, None, Result, Ok, Err, refl, sym, ap, subst, ◌∙◌, inl, inr, codes, append_assoc}
use Rattle.std.specs.List.{slice_split}
use Rattle.std.specs.Prelude.{nat_lt}
use Rattle.std.proofs.lemmas.Bool.{le-ltb}
use Rattle.program_law.specs.Program.{Program}
use Rattle.certificate_law.specs.declared.Certificate.{Certificate}
use Rattle.certificate_law.specs.declared.Certificate.TheVariants.{Optimal, Infeasible, Unbounded, NotConvex}
use Rattle.cert_check_law.specs.Check.{checked, answer}
use Rattle.cert_check_law.specs.declared.Checked.TheVariants.{Accepted, Rejected, Past}
use Rattle.mps_tokens.specs.Lines.{is_line_feed, raw_lines, without_return}
use Rattle.mps_grammar.specs.Lines.{is_passed}
use Rattle.mps_grammar.specs.Words.{word_of}
use Rattle.mps_grammar.specs.Verdict.{Fault}
use Rattle.mps_grammar.specs.Reading.{Spot, read_of, rest_of, first_shown}
use Rattle.cert_grammar.specs.Text.{Lines, lines_text, certificate_lines, certificate_text}
use Rattle.cert_text_law.specs.Reading as reading
use Rattle.cert_text_law.proofs.ReadBack.{read_back}
use Rattle.mps_reader.specs.Appended.{EndsInLineFeed, BeginsShown}
use Rattle.mps_reader.proofs.AppendedLines.{raw_more}
use Rattle.mps_reader.proofs.AppendedReading.{read_more, rest_more, drop_more}
use Rattle.mps_reader.proofs.WholePrograms.{read_program}
use Rattle.branching.specs.declared.stops.DecideStop.{DecideStop}
use Rattle.branching.specs.declared.stops.DecideStop.TheVariants as halted
use Rattle.cert_check_law.specs.declared.Checked.{Checked}
use Rattle.qp_answers.specs.Outcomes.{IsReadable, IsCheckedDue, IsStopDue}
use Rattle.qp_engine.specs.Solving.{IsSolveDue}
use Rattle.qp_answers.specs.Said.{Said, said}
use Rattle.qp_engine.specs.Due.{longest, certificate_due, check_due, IsDue, IsDueBy, IsReadDue, IsTaskDue}
use Rattle.qp_answers.specs.Answers.{file_due, answer_due}
use Rattle.qp_answers.specs.declared.status.Status.TheVariants as status
use Rattle.qp_words.specs.declared.order.Order.{Order}
use Rattle.qp_words.specs.declared.order.Task.{Task}
use Rattle.qp_words.specs.declared.order.Task.TheVariants.{Check, Solve}

-- ---- the first line of a certificate's text

-- a first line with one word that is neither blank nor a comment
worded : (lines others : Lines) (word : List ℕ) → lines ≡ (word ∷ []) ∷ others → slice_split is_line_feed word ≡ word ∷ [] → is_passed (without_return word) ≡ false → BeginsShown (lines_text lines)
worded lines others word e one shown =
    let text : lines_text lines ≡ word ++ 10 ∷ lines_text others = ap lines_text e ∙ append_assoc word (10 ∷ []) (lines_text others) in
    let first : raw_lines (lines_text lines) ≡ word ∷ raw_lines (lines_text others) =
    ap raw_lines text ∙ raw_more word (lines_text others) ∙ ap (λ (ls : List (List ℕ)). ls ++ raw_lines (lines_text others)) one in
    ap (first_shown 0 1) first ∙ rw shown refl

pub text_shown : (p : Program) (c : Certificate) → BeginsShown (certificate_text p c)
unfolding certificate_text
text_shown p (Optimal x v squares tree) = worded (certificate_lines p (Optimal x v squares tree)) _ (codes "OPTIMAL") refl refl refl
text_shown p (Infeasible tree) = worded (certificate_lines p (Infeasible tree)) _ (codes "INFEASIBLE") refl refl refl
text_shown p (Unbounded x d squares) = worded (certificate_lines p (Unbounded x d squares)) _ (codes "UNBOUNDED") refl refl refl
text_shown p (NotConvex v) = worded (certificate_lines p (NotConvex v)) _ (codes "NOTCONVEX") refl refl refl

-- ---- what is due for it

module _ (input : List ℕ) (p : Program) (behind : Spot) (c : Certificate) (ends : EndsInLineFeed input) (reads : read_of input ≡ Ok (p, behind)) (alone : rest_of input behind ≡ None) (h : IsReadable p c) (accepted : answer (checked p c) ≡ Accepted) where
  abbrev whole : List ℕ
  whole = input ++ certificate_text p c

  read_whole : read_of whole ≡ Ok (p, behind)
  read_whole = read_more input (certificate_text p c) p behind ends reads

  check_accepts : check_due p whole (rest_of whole behind) ≡ answer_due Accepted
  check_accepts =
      let line = length (raw_lines input) + 1 in
      ap (check_due p whole) (rest_more input (certificate_text p c) p behind ends reads alone (text_shown p c))
      ∙ ap (λ (text : List ℕ). certificate_due p (reading.read_of p line text)) (drop_more input (certificate_text p c))
      ∙ ap (certificate_due p) (read_back p c line (read_program input p behind reads) h.writable h.numbers)
      ∙ ap answer_due accepted

  module _ (order : Order) (s : Said) (task : order.task ≡ Check) (short : length whole ≤ longest) where
    due_by_read : IsDueBy (nat_lt longest (length whole)) order whole s → IsTaskDue order.task order.bases order.boxes whole p (rest_of whole behind) s
    due_by_read due = let f : IsReadDue order whole (read_of whole) s = subst (λ (b : Bool). IsDueBy b order whole s) (le-ltb longest (length whole) short) due in subst (λ (r : Result (Program × Spot) Fault). IsReadDue order whole r s) read_whole f

    accepted_only : IsDueBy (nat_lt longest (length whole)) order whole s → s ≡ answer_due Accepted
    accepted_only due = subst (λ (t : Task). IsTaskDue t order.bases order.boxes whole p (rest_of whole behind) s) task (due_by_read due) ∙ check_accepts

    accepted_is : s ≡ answer_due Accepted → IsDueBy (nat_lt longest (length whole)) order whole s
    accepted_is e =
        let checks : IsTaskDue Check order.bases order.boxes whole p (rest_of whole behind) s = e ∙ sym check_accepts in
        let due : IsTaskDue order.task order.bases order.boxes whole p (rest_of whole behind) s = subst (λ (t : Task). IsTaskDue t order.bases order.boxes whole p (rest_of whole behind) s) (sym task) checks in
        let read : IsReadDue order whole (read_of whole) s = subst (λ (r : Result (Program × Spot) Fault). IsReadDue order whole r s) (sym read_whole) due in
        subst (λ (b : Bool). IsDueBy b order whole s) (sym (le-ltb longest (length whole) short)) read

pub accepted_due : (order : Order) (input : List ℕ) (p : Program) (behind : Spot) (c : Certificate) (s : Said) → order.task ≡ Check → EndsInLineFeed input → read_of input ≡ Ok (p, behind) → rest_of input behind ≡ None → IsReadable p c → answer (checked p c) ≡ Accepted
    → length (input ++ certificate_text p c) ≤ longest → IsDue order (input ++ certificate_text p c) s ↔ (s ≡ answer_due Accepted)
unfolding IsDue
accepted_due order input p behind c s task ends reads alone h accepted short =
    (accepted_only input p behind c ends reads alone h accepted order s task short, accepted_is input p behind c ends reads alone h accepted order s task short)

-- ---- what solve printed

-- a file that is refused is not done
not_refused : (line : ℕ) (kind : List ℕ) (s : Said) → s ≡ file_due line kind → s.status ≡ status.Done → ⊥
not_refused line kind s e done = apart (sym (ap (λ (t : Said). t.status) e) ∙ done)
  where
    apart : status.FileRefused ≡ status.Done → ⊥
    apart e = cc

not_withheld : (text : List ℕ) (s : Said) → s ≡ said status.Withheld text → s.status ≡ status.Done → ⊥
not_withheld text s e done = apart (sym (ap (λ (t : Said). t.status) e) ∙ done)
  where
    apart : status.Withheld ≡ status.Done → ⊥
    apart e = cc

stop_not_done : (p : Program) (bases : ℕ) (stop : DecideStop) (s : Said) → IsStopDue p bases stop s → s.status ≡ status.Done → ⊥
stop_not_done p bases (halted.Bases path site) s e done = not_withheld _ s e done
stop_not_done p bases (halted.Past path site r) s e done = not_withheld _ s e done
stop_not_done p bases (halted.Boxes n) s e done = not_withheld _ s e done
stop_not_done p bases halted.Memory s e done = e

-- What is done is the text of a certificate that its check accepts.
record IsAccepted (p : Program) (text : List ℕ) : Type 0 where
  certificate : Certificate
  readable : IsReadable p certificate
  accepted : answer (checked p certificate) ≡ Accepted
  prints : text ≡ certificate_text p certificate

solved_accepted : (p : Program) (bases boxes : ℕ) (s : Said) → IsSolveDue p bases boxes s → s.status ≡ status.Done → IsAccepted p s.text
solved_accepted p bases boxes s (inr w) done = absurd (stop_not_done p bases w.stop s w.due done)
solved_accepted p bases boxes s (inl h) done = by_answer (answer (checked p h.certificate)) refl h.due
  where
    by_answer : (a : Checked) → answer (checked p h.certificate) ≡ a → IsCheckedDue p h.certificate a s → IsAccepted p s.text
    by_answer Accepted e due = record { certificate = h.certificate; readable = h.readable; accepted = e; prints = ap (λ (t : Said). t.text) due }
    by_answer (Past r) e due = absurd (not_withheld _ s due done)
    by_answer (Rejected rule place) e due = absurd due

-- a file that was solved has a program, with nothing behind it, and the text is accepted
record IsDecided (input text : List ℕ) : Type 0 where
  program : Program
  behind : Spot
  reads : read_of input ≡ Ok (program, behind)
  alone : rest_of input behind ≡ None
  accepted : IsAccepted program text

file_decided : (order : Order) (input : List ℕ) (s : Said) → order.task ≡ Solve → IsDue order input s → s.status ≡ status.Done → IsDecided input s.text
unfolding IsDue
file_decided order input s task due done = by_length (nat_lt longest (length input)) due
  where
    by_rest : (p : Program) (behind : Spot) (more : Option Spot) → read_of input ≡ Ok (p, behind) → rest_of input behind ≡ more → IsTaskDue Solve order.bases order.boxes input p more s → IsDecided input s.text
    by_rest p behind (Some spot) e f d = absurd (not_refused spot.1 (codes "SectionOrder") s d done)
    by_rest p behind None e f d = record { program = p; behind = behind; reads = e; alone = f; accepted = solved_accepted p order.bases order.boxes s d done }

    by_read : (r : Result (Program × Spot) Fault) → read_of input ≡ r → IsReadDue order input r s → IsDecided input s.text
    by_read (Err fault) e d = absurd (not_refused fault.0 (word_of fault.1) s d done)
    by_read (Ok q) e d = by_rest q.0 q.1 (rest_of input q.1) e refl (subst (λ (t : Task). IsTaskDue t order.bases order.boxes input q.0 (rest_of input q.1) s) task d)

    by_length : (b : Bool) → IsDueBy b order input s → IsDecided input s.text
    by_length true d = absurd (not_refused 0 (codes "TextLong") s d done)
    by_length false d = by_read (read_of input) refl d

pub solution_accepted : (solve check : Order) (input : List ℕ) (solved s : Said) → solve.task ≡ Solve → check.task ≡ Check → EndsInLineFeed input → IsDue solve input solved → solved.status ≡ status.Done
    → length (input ++ solved.text) ≤ longest → IsDue check (input ++ solved.text) s ↔ (s ≡ answer_due Accepted)
solution_accepted solve check input solved s solves checks ends due done short =
    let h = file_decided solve input solved solves due done in
    let P : List ℕ → Type 0 = λ t. length (input ++ t) ≤ longest → IsDue check (input ++ t) s ↔ (s ≡ answer_due Accepted) in
    subst P (sym h.accepted.prints) (accepted_due check input h.program h.behind h.accepted.certificate s checks ends h.reads h.alone h.accepted.readable h.accepted.accepted) short
