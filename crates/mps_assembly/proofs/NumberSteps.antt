-- The programs between two numbers that are set.
use Rattle.std.proofs.Common.{◌≡◌, ℕ, ◌+◌, ◌<◌, ◌≤◌, List, ◌∷◌, take, length, get_or, Option, Some, None, sym, ap, subst, ◌∙◌, arith, IfSome}
use Rattle.program_law.specs.Places.{place_of}
use Rattle.program_law.specs.Program.{Program}
use Rattle.program_law.specs.Changes.{with_pair}
use Rattle.named_things.specs.Named.{names_of}
use Rattle.mps_grammar.specs.Told.{Told, Telling, program_rows, used_names}
use Rattle.mps_notes.specs.declared.numbers.Entry.{Entry}
use Rattle.named_things.specs.Names.{Differ, name_at}
use Rattle.mps_notes.specs.Told.{telling_of, tellings_of, IsEntry, AreEntries}
use Rattle.mps_assembly.specs.Assembled.{assembled, with_placed}
use Rattle.named_things.proofs.PlaceLemmas.{place_below}
use Rattle.mps_tables.proofs.Tellings.{reversed-more, each_at, place-name_at}
use Rattle.mps_assembly.proofs.Programs.{assembled-entry, assembled-unused, assembled-pair}
use Rattle.mps_tables.proofs.ByRows.{length_names}

module _ (told : Told) where
  abbrev columns : List (List ℕ)
  columns = names_of told.columns

  abbrev rows : List (List ℕ)
  rows = names_of told.rows

  abbrev used : List (List ℕ)
  used = used_names told.rows

  -- one entry more
  one_entry : (es ps : List Telling) (e : Entry) → Differ used → Differ columns → IsEntry columns rows used e → assembled told (telling_of columns rows e ∷ es) ps ≡ with_placed (assembled told es ps) e.place e.column e.value
  one_entry es ps e names differ entry = by_place e.place entry.place
    where
      by_place : (o : Option ℕ) → o ≡ place_of used (name_at rows e.row) → assembled told (telling_of columns rows e ∷ es) ps ≡ with_placed (assembled told es ps) o e.column e.value
      by_place None none = assembled-unused told es ps (telling_of columns rows e) (sym none)
      by_place (Some i) found = assembled-entry told es ps (telling_of columns rows e) i e.column names differ (sym found) (place-name_at columns e.column differ entry.column)

  pub entry-step : (es : List Entry) (ps : List Telling) (k : ℕ) (e : Entry) (old new : Program) → Differ used → Differ columns → AreEntries columns rows used es → k < length es → e ≡ get_or es k e → old ≡ assembled told (tellings_of columns rows (take k es)) ps
      → new ≡ with_placed old e.place e.column e.value → new ≡ assembled told (tellings_of columns rows (take (k + 1) es)) ps
  entry-step es ps k e old new names differ all h is before after =
      let entry : IsEntry columns rows used e = subst (IsEntry columns rows used) (sym is) (each_at (IsEntry columns rows used) es k e all h) in
      after ∙ ap (λ (p : Program). with_placed p e.place e.column e.value) before ∙ sym (one_entry (tellings_of columns rows (take k es)) ps e names differ entry)
      ∙ ap (λ (x : Entry). assembled told (telling_of columns rows x ∷ tellings_of columns rows (take k es)) ps) is ∙ sym (ap (λ ts. assembled told ts ps) (reversed-more (telling_of columns rows) es k e h))

  pub pair-step : (es : List Telling) (ps : List Entry) (k : ℕ) (e : Entry) (old new : Program) → Differ columns → AreEntries columns columns columns ps → k < length ps → e ≡ get_or ps k e → old ≡ assembled told es (tellings_of columns columns (take k ps))
      → new ≡ with_pair old e.column e.row e.value → new ≡ assembled told es (tellings_of columns columns (take (k + 1) ps))
  pair-step es ps k e old new differ all h is before after =
      let entry : IsEntry columns columns columns e = subst (IsEntry columns columns columns) (sym is) (each_at (IsEntry columns columns columns) ps k e all h) in
      after ∙ ap (λ (p : Program). with_pair p e.column e.row e.value) before
      ∙ sym (assembled-pair told es (tellings_of columns columns (take k ps)) (telling_of columns columns e) e.column e.row differ (place-name_at columns e.column differ entry.column) (place-name_at columns e.row differ entry.row))
      ∙ ap (λ (x : Entry). assembled told es (telling_of columns columns x ∷ tellings_of columns columns (take k ps))) is ∙ sym (ap (assembled told es) (reversed-more (telling_of columns columns) ps k e h))

  -- an entry's place is that of the objective or of a row that is there
  pub place_within : (es : List Entry) (k : ℕ) (e : Entry) (p : Program) → AreEntries columns rows used es → k < length es → e ≡ get_or es k e → length p.rows ≡ length (program_rows told.rows) → IfSome e.place (λ place. place ≤ length p.rows)
  place_within es k e p all h is count =
      let entry : IsEntry columns rows used e = subst (IsEntry columns rows used) (sym is) (each_at (IsEntry columns rows used) es k e all h) in
      by_place e.place entry.place
    where
      by_place : (o : Option ℕ) → o ≡ place_of used (name_at rows e.row) → IfSome o (λ place. place ≤ length p.rows)
      by_place None none = tt
      by_place (Some i) found = omega (arith, place_below used (name_at rows e.row) i (sym found), count, length_names (program_rows told.rows))
