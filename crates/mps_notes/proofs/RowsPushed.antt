-- What is kept of the rows, with one row more.
use Rattle.std.proofs.Common.{◌≡◌, ℕ, ◌+◌, ◌<◌, Bool, true, false, List, [], ◌∷◌, ◌++◌, length, Option, Some, None, refl, sym, ap, subst, ◌∙◌, arith}
use Rattle.std.specs.Prelude.{is_some}
use Rattle.mps_tokens.specs.declared.words.RowKind.{RowKind}
use Rattle.program_law.specs.Places.{place_of}
use Rattle.program_law.specs.Program.{IsName, marker, most_rows}
use Rattle.named_things.specs.Named.{names_of}
use Rattle.mps_grammar.specs.Told.{binds, program_rows, objective_in, used_names}
use Rattle.mps_notes.specs.declared.rows.RowUse.{RowUse}
use Rattle.mps_notes.specs.declared.rows.Rows.TheInside.{Inside}
use Rattle.named_things.specs.Names.{Differ}
use Rattle.mps_notes.specs.Names.{AreNames}
use Rattle.mps_notes.specs.Entries.{place_after}
use Rattle.mps_notes.specs.Rows.{kinds_of, IsRows}
use Rattle.named_things.proofs.NameLemmas.{ne_from, absent_push, Differ-push}
use Rattle.mps_notes.proofs.RowLemmas.{names_kinds, names_push, kinds_push, all_push, name_filled, placed_push, program_count, program_same, objective_same, objective_there, place_bound, place_objective, place_unused}

abbrev Named : Type 0
Named = List (List ℕ × RowUse)

module _ (old : Inside) (h : IsRows old) (n : List ℕ) (kind : RowKind) (absent : place_of (names_of old.named) n ≡ None) (name : IsName n) (apart : n ≡ marker → ⊥) where
  differ : (kept : RowUse) → Differ (names_of (old.named ++ (n, kept) ∷ []))
  differ kept = rw (names_push old.named n kept) (Differ-push (names_of old.named) n h.differ absent)

  names : (kept : RowUse) → AreNames (names_of (old.named ++ (n, kept) ∷ []))
  names kept = rw (names_push old.named n kept) (all_push IsName (names_of old.named) n h.names name)

  no_marker : (kept : RowUse) → place_of (names_of (old.named ++ (n, kept) ∷ [])) marker ≡ None
  no_marker kept = rw (names_push old.named n kept) (absent_push (names_of old.named) n marker h.no_marker (ne_from marker n (λ e. apart (sym e))))

  gone : place_of (names_of (kinds_of old.named)) n ≡ None
  gone = rw (names_kinds old.named) absent

  kinds : (p : Option ℕ) → kinds_of (old.named ++ (n, record { kind = kind; place = p }) ∷ []) ≡ kinds_of old.named ++ (n, kind) ∷ []
  kinds p = kinds_push old.named n (record { kind = kind; place = p })

  pub bound_pushed : binds kind ≡ true → length (program_rows (kinds_of old.named)) < most_rows
      → IsRows (record { named = old.named ++ (n, record { kind = kind; place = Some (old.bound + 1) }) ∷ []; bound = old.bound + 1; objective = old.objective })
  bound_pushed b few =
      let p : Option ℕ = Some (old.bound + 1) in
      let kept : RowUse = record { kind = kind; place = p } in
      record {
        differ = differ kept;
        names = names kept;
        no_marker = no_marker kept;
        bound = ap (λ (k : ℕ). k + 1) h.bound ∙ sym (ap (λ l. length (program_rows l)) (kinds p) ∙ program_count (kinds_of old.named) n kind b);
        few = omega (arith, h.bound);
        objective = h.objective ∙ sym (ap (λ l. is_some (objective_in l)) (kinds p) ∙ objective_same (kinds_of old.named) n kind b);
        placed = placed_push old.named n kept h.names absent h.placed
            (ap (λ (k : ℕ). Some (k + 1)) h.bound ∙ sym (ap (λ l. place_of (used_names l) n) (kinds p) ∙ place_bound (kinds_of old.named) n kind b gone (name_filled n name)));
      }

  free_place : (o : Bool) → old.objective ≡ o → binds kind ≡ false → place_after false old.bound o ≡ place_of (used_names (kinds_of old.named ++ (n, kind) ∷ [])) n
  free_place true e b = sym (place_unused (kinds_of old.named) n kind b (sym h.objective ∙ e) gone (name_filled n name))
  free_place false e b = sym (place_objective (kinds_of old.named) n kind b (sym h.objective ∙ e))

  pub free_pushed : binds kind ≡ false → IsRows (record { named = old.named ++ (n, record { kind = kind; place = place_after false old.bound old.objective }) ∷ []; bound = old.bound; objective = true })
  free_pushed b =
      let p : Option ℕ = place_after false old.bound old.objective in
      let kept : RowUse = record { kind = kind; place = p } in
      record {
        differ = differ kept;
        names = names kept;
        no_marker = no_marker kept;
        bound = h.bound ∙ sym (ap (λ l. length (program_rows l)) (kinds p) ∙ ap length (program_same (kinds_of old.named) n kind b));
        few = h.few;
        objective = sym (ap (λ l. is_some (objective_in l)) (kinds p) ∙ objective_there (kinds_of old.named) n kind b);
        placed = placed_push old.named n kept h.names absent h.placed (free_place old.objective refl b ∙ sym (ap (λ l. place_of (used_names l) n) (kinds p)));
      }

same_rows : (old : Named) (n m : List ℕ) (kind : RowKind) (p q : Option ℕ) (new : Named) → m ≡ n → p ≡ q → new ≡ old ++ (m, record { kind = kind; place = p }) ∷ [] → new ≡ old ++ (n, record { kind = kind; place = q }) ∷ []
same_rows old n m kind p q new e f g = g ∙ rw (e, f) refl

module _ (old : Inside) (h : IsRows old) (n m : List ℕ) (kind : RowKind) (b : Bool) (p : Option ℕ) (new : Named) (absent : place_of (names_of (kinds_of old.named)) n ≡ None) (name : IsName n) (apart : n ≡ marker → ⊥)
    (m-is : m ≡ n) (b-is : b ≡ binds kind) (p-is : p ≡ place_after b old.bound old.objective) (new-is : new ≡ old.named ++ (m, record { kind = kind; place = p }) ∷ []) where
  gone_named : place_of (names_of old.named) n ≡ None
  gone_named = rw (← names_kinds old.named) absent

  pub bound_done : b ≡ true → length (program_rows (kinds_of old.named)) < most_rows → IsRows (record { named = new; bound = old.bound + 1; objective = old.objective })
  bound_done e few =
      let P : Named → Type 0 = λ l. IsRows (record { named = l; bound = old.bound + 1; objective = old.objective }) in
      let place : p ≡ Some (old.bound + 1) = p-is ∙ rw e refl in
      subst P (sym (same_rows old.named n m kind p (Some (old.bound + 1)) new m-is place new-is)) (bound_pushed old h n kind gone_named name apart (sym b-is ∙ e) few)

  pub free_done : b ≡ false → IsRows (record { named = new; bound = old.bound; objective = true })
  free_done e =
      let P : Named → Type 0 = λ l. IsRows (record { named = l; bound = old.bound; objective = true }) in
      let place : p ≡ place_after false old.bound old.objective = p-is ∙ rw e refl in
      subst P (sym (same_rows old.named n m kind p (place_after false old.bound old.objective) new m-is place new-is)) (free_pushed old h n kind gone_named name apart (sym b-is ∙ e))
