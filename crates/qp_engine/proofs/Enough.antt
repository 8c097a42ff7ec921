-- What is always enough to decide a program.
use Rattle.std.proofs.Common.{◌⊎◌, ℕ, ◌+◌, ◌≤◌, arith, inl, inr, Err}
use Rattle.std.proofs.lemmas.List.Elements.{All-contains}
use Rattle.frac_core.specs.Operations.{IsWithin}
use Rattle.frac_core.specs.Parts.{max_part}
use Rattle.frac_core.proofs.Operations.{contained}
use Rattle.program_law.specs.Program.{Program, IsProgram}
use Rattle.convexity.specs.ReductionOperations.{squares_ops}
use Rattle.convexity.proofs.Answered.{operations_are}
use Rattle.exact_matrix.specs.declared.systems.Stop.TheVariants as stops
use Rattle.branching_law.proofs.BelowRoots.{spent_site_small}
use Rattle.branching_law.proofs.SearchEnds.{never_used_up}
use Rattle.branching.specs.Stops.{IsDecideStopOf}
use Rattle.branching.specs.declared.stops.DecideStop.{DecideStop}
use Rattle.branching.specs.declared.stops.DecideStop.TheVariants.{Memory, Bases, Boxes, Past}
use Rattle.qp_words.specs.declared.order.Order.{Order}
use Rattle.qp_answers.specs.Said.{Said}
use Rattle.qp_engine.specs.Sampling.{sample, IsSampled, IsSampleDue}
use Rattle.qp_engine.specs.Enough.{AreManyBases, AreManyBoxes, HasRoom}
use Rattle.qp_engine.specs.Solving.{IsSolved, IsSolveDue, IsWithheld}
use Rattle.qp_answers.specs.Outcomes.{IsStopDue}

clash : (b n : ℕ) → b + 2 ≤ n → n ≤ b → ⊥
clash b n h k = omega (arith, h, k)

module _ (p : Program) (bases boxes : ℕ) (is : IsProgram p) (room : HasRoom p bases) (many_bases : AreManyBases p bases) (many_boxes : AreManyBoxes p boxes) where
  nothing_stops : (stop : DecideStop) (s : Said) → IsDecideStopOf p bases boxes stop → IsStopDue p bases stop s → ⊥
  nothing_stops Memory s h due = due
  nothing_stops (Bases path site) s h due =
      clash bases _ (spent_site_small p bases path h.place is (record { reached = h.spent.reached; spent = h.spent.first.spent })) (many_bases path h.spent.reached.comes h.spent.reached.uncrossed)
  nothing_stops (Boxes n) s h due = never_used_up p bases boxes is h.1 many_boxes
  nothing_stops (Past path site r) s (inl h) due =
      let first = operations_are p is (Err (stops.Past r)) h.past in
      first.past (All-contains (IsWithin max_part) (squares_ops p.pairs) r room.squares (contained max_part (squares_ops p.pairs) r first))
  nothing_stops (Past path site r) s (inr h) due = h.past.past (room.sites path h.place r h.past.reached h.past.stands)

  pub decided : (s : Said) → IsSolveDue p bases boxes s → IsSolved p bases boxes s
  decided s (inl solved) = solved
  decided s (inr held) = absurd (nothing_stops held.stop s held.stops held.due)

  pub not_withheld : (s : Said) → IsWithheld p bases boxes s → ⊥
  not_withheld s held = nothing_stops held.stop s held.stops held.due

sampled_by : (order : Order) (s : Said) → HasRoom (sample order) order.bases → AreManyBases (sample order) order.bases → AreManyBoxes (sample order) order.boxes → IsProgram (sample order)
    → IsSampled order s ⊎ IsWithheld (sample order) order.bases order.boxes s → IsSampled order s
sampled_by order s room many_bases many_boxes is (inl sampled) = sampled
sampled_by order s room many_bases many_boxes is (inr held) = absurd (not_withheld (sample order) order.bases order.boxes is room many_bases many_boxes s held)

pub sampled : (order : Order) (s : Said) → HasRoom (sample order) order.bases → AreManyBases (sample order) order.bases → AreManyBoxes (sample order) order.boxes → IsSampleDue order s → IsSampled order s
sampled order s room many_bases many_boxes due = sampled_by order s room many_bases many_boxes due.0 due.1
