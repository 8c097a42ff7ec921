-- One text is due of a program, and of an order and its input.
use Rattle.std.proofs.Common.{◌≡◌, ◌⊎◌, ℕ, Bool, true, false, List, Option, Some, None, Result, Ok, Err, refl, sym, ◌∙◌, subst, inl, inr}
use Rattle.std.specs.Prelude.{nat_lt, length}
use Rattle.program_law.specs.Program.{Program, IsProgram}
use Rattle.certificate_law.specs.declared.Certificate.{Certificate}
use Rattle.cert_check_law.specs.Check.{checked, answer}
use Rattle.cert_check_law.specs.declared.Checked.{Checked}
use Rattle.cert_check_law.specs.declared.Checked.TheVariants.{Accepted, Rejected, Past}
use Rattle.mps_grammar.specs.Verdict.{Fault}
use Rattle.mps_grammar.specs.Reading.{Spot, read_of, rest_of}
use Rattle.mps_reader.proofs.WholePrograms.{read_program}
use Rattle.branching.specs.Stops.{IsDecideStopOf, IsOfBudget}
use Rattle.branching.specs.declared.stops.DecideStop.{DecideStop}
use Rattle.branching.specs.declared.stops.DecideStop.TheVariants as halted
use Rattle.branching.proofs.OneEnding.{one_certificate, one_stop, not_both}
use Rattle.qp_answers.specs.Said.{Said}
use Rattle.qp_answers.specs.Outcomes.{IsCheckedDue, IsFoundDue, IsStopDue}
use Rattle.qp_engine.specs.Solving.{IsSolved, IsSolveDue}
use Rattle.qp_engine.specs.OnlyTexts.{IsPastDue, IsPastOf}
use Rattle.qp_engine.specs.Due.{longest, IsDue, IsDueBy, IsReadDue, IsTaskDue}
use Rattle.qp_words.specs.declared.order.Order.{Order}
use Rattle.qp_words.specs.declared.order.Task.{Task}
use Rattle.qp_words.specs.declared.order.Task.TheVariants.{Check, Write, Solve, Sample}

one_checked : (p : Program) (c : Certificate) (k : Checked) (s t : Said) → IsCheckedDue p c k s → IsCheckedDue p c k t → s ≡ t
one_checked p c Accepted s t h g = h ∙ sym g
one_checked p c (Past r) s t h g = h ∙ sym g
one_checked p c (Rejected rule place) s t h g = absurd h

one_stop_text : (p : Program) (bases : ℕ) (stop : DecideStop) (s t : Said) → IsStopDue p bases stop s → IsStopDue p bases stop t → s ≡ t
one_stop_text p bases halted.Memory s t h g = absurd h
one_stop_text p bases (halted.Bases path site) s t h g = h ∙ sym g
one_stop_text p bases (halted.Boxes n) s t h g = h ∙ sym g
one_stop_text p bases (halted.Past path site r) s t h g = h ∙ sym g

module _ (p : Program) (is : IsProgram p) (bases boxes : ℕ) where
  -- a text that is withheld is so for want of a budget, or for an operation that is past
  record IsBudgetDue (s : Said) : Type 0 where
    stop : DecideStop
    of_budget : IsOfBudget stop
    stops : IsDecideStopOf p bases boxes stop
    due : IsStopDue p bases stop s

  withheld_for : (stop : DecideStop) (s : Said) → IsDecideStopOf p bases boxes stop → IsStopDue p bases stop s → IsBudgetDue s ⊎ IsPastDue p bases boxes s
  withheld_for halted.Memory s h due = absurd due
  withheld_for (halted.Bases path site) s h due = inl (record { stop = halted.Bases path site; of_budget = tt; stops = h; due = due })
  withheld_for (halted.Boxes n) s h due = inl (record { stop = halted.Boxes n; of_budget = tt; stops = h; due = due })
  withheld_for (halted.Past path site r) s h due = inr (record { path = path; site = site; refused = r; stops = h; due = due })

  one_solved : (s t : Said) → IsSolved p bases boxes s → IsSolved p bases boxes t → s ≡ t
  one_solved s t h g =
      one_checked p g.certificate (answer (checked p g.certificate)) s t
      (subst (λ (c : Certificate). IsFoundDue p c s) (one_certificate p is bases boxes h.certificate g.certificate h.found g.found) h.due) g.due

  one_held : (s t : Said) → IsBudgetDue s → IsBudgetDue t → s ≡ t
  one_held s t h g =
      one_stop_text p bases g.stop s t (subst (λ (stop : DecideStop). IsStopDue p bases stop s) (one_stop p is bases boxes h.stop g.stop h.of_budget g.of_budget h.stops g.stops) h.due) g.due

  apart : (s t : Said) → IsSolved p bases boxes s → IsBudgetDue t → ⊥
  apart s t h g = not_both p is bases boxes h.certificate g.stop h.found g.of_budget g.stops

  pub one_text : (s t : Said) → IsSolveDue p bases boxes s → IsSolveDue p bases boxes t → (s ≡ t) ⊎ IsPastDue p bases boxes s ⊎ IsPastDue p bases boxes t
  one_text s t (inl h) (inl g) = inl (one_solved s t h g)
  one_text s t (inl h) (inr g) =
      elim (withheld_for g.stop t g.stops g.due) [
        | inl b ↦ absurd (apart s t h b)
        | inr past ↦ inr (inr past)
      ]
  one_text s t (inr h) (inl g) =
      elim (withheld_for h.stop s h.stops h.due) [
        | inl b ↦ absurd (apart t s g b)
        | inr past ↦ inr (inl past)
      ]
  one_text s t (inr h) (inr g) =
      elim (withheld_for h.stop s h.stops h.due) [
        | inr past ↦ inr (inl past)
        | inl b ↦ elim (withheld_for g.stop t g.stops g.due) [
          | inl c ↦ inl (one_held s t b c)
          | inr past ↦ inr (inr past)
        ]
      ]

module _ (order : Order) (input : List ℕ) (s t : Said) where
  abbrev IsOne : Type 0
  IsOne = (s ≡ t) ⊎ IsPastOf order input s ⊎ IsPastOf order input t

  of_program : (p : Program) (behind : Spot) → read_of input ≡ Ok (p, behind) → (s ≡ t) ⊎ IsPastDue p order.bases order.boxes s ⊎ IsPastDue p order.bases order.boxes t → IsOne
  of_program p behind reads (inl e) = inl e
  of_program p behind reads (inr (inl past)) = inr (inl (record { program = p; behind = behind; reads = reads; past = past }))
  of_program p behind reads (inr (inr past)) = inr (inr (record { program = p; behind = behind; reads = reads; past = past }))

  by_task : (task : Task) (p : Program) (behind : Spot) → read_of input ≡ Ok (p, behind) → (more : Option Spot) → IsTaskDue task order.bases order.boxes input p more s
      → IsTaskDue task order.bases order.boxes input p more t → IsOne
  by_task Check p behind reads more h g = inl (h ∙ sym g)
  by_task Write p behind reads None h g = inl (h ∙ sym g)
  by_task Write p behind reads (Some more) h g = inl (h ∙ sym g)
  by_task Solve p behind reads (Some more) h g = inl (h ∙ sym g)
  by_task Solve p behind reads None h g = of_program p behind reads (one_text p (read_program input p behind reads) order.bases order.boxes s t h g)
  by_task Sample p behind reads more h g = absurd h

  by_read : (r : Result (Program × Spot) Fault) → read_of input ≡ r → IsReadDue order input r s → IsReadDue order input r t → IsOne
  by_read (Err fault) e h g = inl (h ∙ sym g)
  by_read (Ok q) e h g = by_task order.task q.0 q.1 e (rest_of input q.1) h g

  by_length : (b : Bool) → IsDueBy b order input s → IsDueBy b order input t → IsOne
  by_length true h g = inl (h ∙ sym g)
  by_length false h g = by_read (read_of input) refl h g

  pub one_of_input : IsDue order input s → IsDue order input t → (s ≡ t) ⊎ IsPastOf order input s ⊎ IsPastOf order input t
  unfolding IsDue
  one_of_input h g = by_length (nat_lt longest (length input)) h g
