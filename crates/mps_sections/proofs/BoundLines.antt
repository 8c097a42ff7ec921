-- Lines of BOUNDS.
use Rattle.std.proofs.Common.{◌≡◌, ℕ, ◌<◌, Bool, true, false, ◌||◌, List, [], ◌∷◌, ◌++◌, length, Some, Ok, refl, sym, ap, subst, ◌∙◌}
use Rattle.rational.specs.Rational.{ℚ}
use Rattle.program_law.specs.Places.{place_of}
use Rattle.mps_tokens.specs.declared.words.BoundKind.{BoundKind}
use Rattle.mps_grammar.specs.declared.kinds.FaultKind.TheVariants as kinds
use Rattle.mps_grammar.specs.Fields.{Bounded}
use Rattle.named_things.specs.Named.{names_of}
use Rattle.mps_grammar.specs.Told.{is_used, bound_value, with_bound}
use Rattle.mps_grammar.specs.Faults.{Tests, first_of, is_long, of_number, is_no_number, is_past, bounded_tests}
use Rattle.mps_notes.specs.declared.bounds.Bound.{Bound}
use Rattle.mps_notes.specs.declared.bounds.Bounds.{Bounds}
use Rattle.mps_notes.specs.declared.notes.Notes.{Notes}
use Rattle.mps_notes.specs.Told.{bound_telling, bounds_of, AreBounds, text_in}
use Rattle.mps_notes.specs.Notes.{told_in, IsSound}
use Rattle.mps_sections.specs.Steps.{ReadsBound, BoundDone, TakesBounded}
use Rattle.named_things.proofs.PlaceLemmas.{place_below}
use Rattle.mps_notes.proofs.RowLemmas.{all_push}
use Rattle.mps_notes.proofs.Tellings.{name_from_place, bounds_push}
use Rattle.mps_notes.proofs.Sound.{keeps_bounds}

-- the tests of a bound's number
abbrev number_tests : Bounded → Tests
number_tests b = (of_number is_no_number b.number, kinds.NumberText) ∷ (of_number is_past b.number, kinds.NumberPast) ∷ []

module _ (n : Notes) (kind : BoundKind) (b : Bounded) (column : ℕ) (h : IsSound n) (short : (is_long b.set || is_long b.column) ≡ false) (at : place_of (names_of n.columns) b.column ≡ Some column) where
  rests : bounded_tests (told_in n) (Some b) ≡ (false, kinds.NameLong) ∷ (false, kinds.NameUnknown) ∷ number_tests b
  rests = rw (short, at) refl

  more_bounds : (value : ℚ) (new : Bounds) (used : Bool) → value ≡ bound_value b.number → is_used (text_in n.bounds.set) b.set ≡ used → BoundDone n.bounds new b.set (record { kind = kind; column = column; value = value })
      → AreBounds (names_of n.columns) new.items.items × (bounds_of (names_of n.columns) new.items.items ≡ with_bound (text_in n.bounds.set) (Some (kind, b)) (bounds_of (names_of n.columns) n.bounds.items.items))
  more_bounds value new true e u d =
      let bound : Bound = record { kind = kind; column = column; value = value } in
      let items : new.items.items ≡ n.bounds.items.items ++ bound ∷ [] = d.items_are ∙ rw u refl in
      let A : List Bound → Type 0 = λ l. AreBounds (names_of n.columns) l in
      let tells : bound_telling (names_of n.columns) bound ≡ record { kind = kind; column = b.column; value = bound_value b.number } = rw (name_from_place (names_of n.columns) b.column column at, e) refl in (
        subst A (sym items) (all_push (λ x. x.column < length (names_of n.columns)) n.bounds.items.items bound h.bounds (place_below (names_of n.columns) b.column column at)),
        ap (bounds_of (names_of n.columns)) items ∙ bounds_push (names_of n.columns) n.bounds.items.items bound ∙ rw (tells, u) refl,
      )
  more_bounds value new false e u d =
      let items : new.items.items ≡ n.bounds.items.items = d.items_are ∙ rw u refl in
      let A : List Bound → Type 0 = λ l. AreBounds (names_of n.columns) l in
      (subst A (sym items) h.bounds, ap (bounds_of (names_of n.columns)) items ∙ rw u refl)

  pub bound_put : (value : ℚ) (new : Bounds) → ReadsBound b.number (Ok value) → BoundDone n.bounds new b.set (record { kind = kind; column = column; value = value }) → TakesBounded n kind b (record n { bounds = new }) (Ok tt)
  bound_put value new v d =
      let m = more_bounds value new (is_used (text_in n.bounds.set) b.set) v.1 refl d in
      (ap first_of rests ∙ v.0, keeps_bounds n new _ _ h m.0 d.set_is m.1)

pub neither : (a b : Bool) → false ≡ a → false ≡ b → (a || b) ≡ false
neither a b e f = rw (← e, ← f) refl
