-- A row by its number.
use Rattle.std.proofs.Common.{◌≡◌, ℕ, zero, suc, ◌<◌, ◌≤◌, List, [], ◌∷◌, length, Option, Some, None, refl, sym, ap, ◌∙◌, arith}
use Rattle.std.specs.Prelude.{slice_get, IfSome, true, false}
use Rattle.program_law.specs.Places.{place_of}
use Rattle.mps_grammar.specs.Told.{program_rows, used_names}
use Rattle.mps_notes.specs.declared.rows.RowUse.{RowUse}
use Rattle.mps_notes.specs.declared.rows.Rows.TheInside.{Inside}
use Rattle.named_things.specs.Named.{names_of, things_of}
use Rattle.named_things.specs.Names.{name_at}
use Rattle.mps_notes.specs.Entries.{most_places}
use Rattle.mps_notes.specs.Rows.{kinds_of, IsRows}
use Rattle.named_things.proofs.PlaceLemmas.{place_below}
use Rattle.named_things.proofs.NameLemmas.{eq_self, absent_parts}
use Rattle.mps_notes.proofs.RowLemmas.{names_kinds, names_length}

pub kind_found : (rows : List (List ℕ × RowUse)) (i : ℕ) (kept : RowUse) → slice_get (things_of rows) i ≡ Some kept → slice_get (things_of (kinds_of rows)) i ≡ Some kept.kind
kind_found [] i kept e = absurd cc
kind_found (r ∷ rs) zero kept e = let same : r.1 ≡ kept = cc in rw same refl
kind_found (r ∷ rs) (suc i) kept e = kind_found rs i kept e

pub row_found : (rows : List (List ℕ × RowUse)) (i : ℕ) (kept : RowUse) → slice_get (things_of rows) i ≡ Some kept → slice_get rows i ≡ Some (name_at (names_of rows) i, kept)
row_found [] i kept e = absurd cc
row_found (r ∷ rs) zero kept e = let same : r.1 ≡ kept = cc in ap (λ (k : RowUse). Some (r.0, k)) same
row_found (r ∷ rs) (suc i) kept e = row_found rs i kept e

pub place_found : (rows : Inside) (h : IsRows rows) (i : ℕ) (kept : RowUse) → slice_get (things_of rows.named) i ≡ Some kept → kept.place ≡ place_of (used_names (kinds_of rows.named)) (name_at (names_of (kinds_of rows.named)) i)
place_found rows h i kept e = rw (names_kinds rows.named) (h.placed i (name_at (names_of rows.named) i, kept) (row_found rows.named i kept e))

pub place_within : (names : List (List ℕ)) (n : List ℕ) (o : Option ℕ) (most : ℕ) → o ≡ place_of names n → length names ≤ most → IfSome o (λ k. k < most)
place_within names n None most e few = tt
place_within names n (Some k) most e few = omega (arith, place_below names n k (sym e))

pub few_used : (rows : Inside) → IsRows rows → length (used_names (kinds_of rows.named)) ≤ most_places
few_used rows h = omega (arith, h.bound, h.few, names_length (program_rows (kinds_of rows.named)))

pub absent_differs_at : (names : List (List ℕ)) (m n : List ℕ) (i : ℕ) → place_of names m ≡ None → slice_get names i ≡ Some n → n ≡ m → ⊥
absent_differs_at [] m n i absent e h = absurd cc
absent_differs_at (x ∷ xs) m n zero absent e h =
    let same : x ≡ m = cc in
    let p = absent_parts x m xs absent in
    let q = rw same at p.0 in
    let r : true ≡ false = sym (eq_self m) ∙ q in
    absurd cc
absent_differs_at (x ∷ xs) m n (suc i) absent e h = absent_differs_at xs m n i (absent_parts x m xs absent).1 e h
