-- What is kept stays sound, and what each change of it tells.
use Rattle.std.proofs.Common.{◌≡◌, ℕ, ◌<◌, Bool, false, List, [], ◌∷◌, ◌++◌, length, Option, Some, None, refl, sym, ap, subst, ◌∙◌, arith, length-append}
use Rattle.std.specs.Str.{bytes_eq}
use Rattle.program_law.specs.Places.{place_of}
use Rattle.program_law.specs.Program.{IsName, most_columns}
use Rattle.mps_tokens.specs.declared.words.RowKind.{RowKind}
use Rattle.named_things.specs.Named.{names_of}
use Rattle.mps_grammar.specs.Told.{Told, Telling, BoundTelling, used_names}
use Rattle.mps_notes.specs.declared.numbers.Entry.{Entry}
use Rattle.mps_notes.specs.declared.bounds.Bounds.{Bounds}
use Rattle.mps_notes.specs.declared.sides.Sides.{Sides}
use Rattle.mps_notes.specs.declared.notes.Notes.{Notes}
use Rattle.named_things.specs.Names.{name_at}
use Rattle.mps_notes.specs.Told.{tellings_of, AreEntries, bounds_of, AreBounds, text_in}
use Rattle.mps_notes.specs.Notes.{no_column, told_in, IsSound}
use Rattle.mps_notes.specs.Notes.{Holds, with_name}
use Rattle.named_things.proofs.NameLemmas.{Differ-push}
use Rattle.mps_notes.proofs.RowLemmas.{names_push, all_push, used_kept}
use Rattle.mps_notes.proofs.Tellings.{absent_name_at, tellings_columns, tellings_rows, tellings_grow, entries_grow, entries_row, pairs_grow, bounds_grow, bounds_same}

-- ---- numbers and bounds

pub keeps_entries : (n : Notes) (new : List Entry) (told : List Telling) → IsSound n → AreEntries (names_of n.columns) (names_of n.rows) (used_names n.rows) new → tellings_of (names_of n.columns) (names_of n.rows) new ≡ told
    → Holds (record (told_in n) { entries = told }) (record n { entries = new })
keeps_entries n new told h all e = record {
  told_is = ap (λ (l : List Telling). record (told_in n) { entries = l }) e;
  sound = record { rows_differ = h.rows_differ; column_names = h.column_names; columns_differ = h.columns_differ; few_columns = h.few_columns; entries = all; sides = h.sides; ranges = h.ranges; bounds = h.bounds; pairs = h.pairs };
}

pub keeps_pairs : (n : Notes) (new : List Entry) (told : List Telling) → IsSound n → AreEntries (names_of n.columns) (names_of n.columns) (names_of n.columns) new → tellings_of (names_of n.columns) (names_of n.columns) new ≡ told
    → Holds (record (told_in n) { pairs = told }) (record n { pairs = new })
keeps_pairs n new told h all e = record {
  told_is = ap (λ (l : List Telling). record (told_in n) { pairs = l }) e;
  sound = record { rows_differ = h.rows_differ; column_names = h.column_names; columns_differ = h.columns_differ; few_columns = h.few_columns; entries = h.entries; sides = h.sides; ranges = h.ranges; bounds = h.bounds; pairs = all };
}

pub keeps_sides : (n : Notes) (new : Sides) (set : Option (List ℕ)) (told : List Telling) → IsSound n → AreEntries no_column (names_of n.rows) (used_names n.rows) new.numbers → text_in new.set ≡ set → tellings_of no_column (names_of n.rows) new.numbers ≡ told
    → Holds (record (told_in n) { side_set = set; sides = told }) (record n { sides = new })
keeps_sides n new set told h all s e = record {
  told_is = ap (λ (o : Option (List ℕ)). record (told_in n) { side_set = o; sides = tellings_of no_column (names_of n.rows) new.numbers }) s ∙ ap (λ (l : List Telling). record (told_in n) { side_set = set; sides = l }) e;
  sound = record { rows_differ = h.rows_differ; column_names = h.column_names; columns_differ = h.columns_differ; few_columns = h.few_columns; entries = h.entries; sides = all; ranges = h.ranges; bounds = h.bounds; pairs = h.pairs };
}

pub keeps_ranges : (n : Notes) (new : Sides) (set : Option (List ℕ)) (told : List Telling) → IsSound n → AreEntries no_column (names_of n.rows) (used_names n.rows) new.numbers → text_in new.set ≡ set → tellings_of no_column (names_of n.rows) new.numbers ≡ told
    → Holds (record (told_in n) { range_set = set; ranges = told }) (record n { ranges = new })
keeps_ranges n new set told h all s e = record {
  told_is = ap (λ (o : Option (List ℕ)). record (told_in n) { range_set = o; ranges = tellings_of no_column (names_of n.rows) new.numbers }) s ∙ ap (λ (l : List Telling). record (told_in n) { range_set = set; ranges = l }) e;
  sound = record { rows_differ = h.rows_differ; column_names = h.column_names; columns_differ = h.columns_differ; few_columns = h.few_columns; entries = h.entries; sides = h.sides; ranges = all; bounds = h.bounds; pairs = h.pairs };
}

pub keeps_bounds : (n : Notes) (new : Bounds) (set : Option (List ℕ)) (told : List BoundTelling) → IsSound n → AreBounds (names_of n.columns) new.items.items → text_in new.set ≡ set → bounds_of (names_of n.columns) new.items.items ≡ told
    → Holds (record (told_in n) { bound_set = set; bounds = told }) (record n { bounds = new })
keeps_bounds n new set told h all s e = record {
  told_is = ap (λ (o : Option (List ℕ)). record (told_in n) { bound_set = o; bounds = bounds_of (names_of n.columns) new.items.items }) s ∙ ap (λ (l : List BoundTelling). record (told_in n) { bound_set = set; bounds = l }) e;
  sound = record { rows_differ = h.rows_differ; column_names = h.column_names; columns_differ = h.columns_differ; few_columns = h.few_columns; entries = h.entries; sides = h.sides; ranges = h.ranges; bounds = all; pairs = h.pairs };
}

-- ---- a row more

abbrev Kinds : Type 0
Kinds = List (List ℕ × RowKind)

pub keeps_rows : (n : Notes) (name : List ℕ) (kind : RowKind) (filled : (k : ℕ) → k < length (names_of n.rows) → bytes_eq (name_at (names_of n.rows) k) [] ≡ false) → IsSound n → place_of (names_of n.rows) name ≡ None
    → Holds (record (told_in n) { rows = n.rows ++ (name, kind) ∷ [] }) (record n { rows = n.rows ++ (name, kind) ∷ [] })
keeps_rows n name kind filled h absent =
    let rn = names_of n.rows in
    let cn = names_of n.columns in
    let more : List (List ℕ) = name ∷ [] in
    let now = used_names (n.rows ++ (name, kind) ∷ []) in
    let names : names_of (n.rows ++ (name, kind) ∷ []) ≡ rn ++ more = names_push n.rows name kind in
    let kept : (k : ℕ) → k < length rn → place_of now (name_at rn k) ≡ place_of (used_names n.rows) (name_at rn k) = λ k lt. used_kept n.rows name kind (name_at rn k) (absent_name_at rn name k absent lt) (filled k lt) in
    let T : List (List ℕ) → Told = λ l. record (told_in n) {
      rows = n.rows ++ (name, kind) ∷ [];
      entries = tellings_of cn l n.entries;
      sides = tellings_of no_column l n.sides.numbers;
      ranges = tellings_of no_column l n.ranges.numbers;
    } in
    let E : List (List ℕ) → Type 0 = λ l. AreEntries cn l now n.entries in
    let S : List (List ℕ) → Type 0 = λ l. AreEntries no_column l now n.sides.numbers in
    let R : List (List ℕ) → Type 0 = λ l. AreEntries no_column l now n.ranges.numbers in
    record {
      told_is = ap T names ∙ rw (tellings_rows cn rn more (used_names n.rows) n.entries h.entries, tellings_rows no_column rn more (used_names n.rows) n.sides.numbers h.sides, tellings_rows no_column rn more (used_names n.rows) n.ranges.numbers h.ranges) refl;
      sound = record {
        rows_differ = rw names (Differ-push rn name h.rows_differ absent);
        column_names = h.column_names;
        columns_differ = h.columns_differ;
        few_columns = h.few_columns;
        entries = subst E (sym names) (entries_row cn rn (used_names n.rows) now name n.entries h.entries kept);
        sides = subst S (sym names) (entries_row no_column rn (used_names n.rows) now name n.sides.numbers h.sides kept);
        ranges = subst R (sym names) (entries_row no_column rn (used_names n.rows) now name n.ranges.numbers h.ranges kept);
        bounds = h.bounds;
        pairs = h.pairs;
      };
    }

-- ---- a column more

new_column : (n : Notes) (name : List ℕ) (marked : Bool) → IsSound n → IsName name → place_of (names_of n.columns) name ≡ None → length n.columns < most_columns
    → Holds (record (told_in n) { columns = n.columns ++ (name, marked) ∷ [] }) (record n { columns = n.columns ++ (name, marked) ∷ [] })
new_column n name marked h good absent few =
    let rn = names_of n.rows in
    let cn = names_of n.columns in
    let more : List (List ℕ) = name ∷ [] in
    let names : names_of (n.columns ++ (name, marked) ∷ []) ≡ cn ++ more = names_push n.columns name marked in
    let T : List (List ℕ) → Told = λ l. record (told_in n) {
      columns = n.columns ++ (name, marked) ∷ [];
      entries = tellings_of l rn n.entries;
      bounds = bounds_of l n.bounds.items.items;
      pairs = tellings_of l l n.pairs;
    } in
    let E : List (List ℕ) → Type 0 = λ l. AreEntries l rn (used_names n.rows) n.entries in
    let B : List (List ℕ) → Type 0 = λ l. AreBounds l n.bounds.items.items in
    let Q : List (List ℕ) → Type 0 = λ l. AreEntries l l l n.pairs in
    record {
      told_is = ap T names ∙ rw (tellings_columns cn rn more (used_names n.rows) n.entries h.entries, bounds_same cn more n.bounds.items.items h.bounds, tellings_grow cn cn more more cn n.pairs h.pairs) refl;
      sound = record {
        rows_differ = h.rows_differ;
        column_names = rw names (all_push IsName cn name h.column_names good);
        columns_differ = rw names (Differ-push cn name h.columns_differ absent);
        few_columns = omega (arith, length-append n.columns ((name, marked) ∷ []));
        entries = subst E (sym names) (entries_grow cn rn (used_names n.rows) more n.entries h.entries);
        sides = h.sides;
        ranges = h.ranges;
        bounds = subst B (sym names) (bounds_grow cn more n.bounds.items.items h.bounds);
        pairs = subst Q (sym names) (pairs_grow cn name n.pairs h.pairs absent);
      };
    }

pub keeps_columns : (n : Notes) (name : List ℕ) (marked : Bool) (o : Option ℕ) → IsSound n → IsName name → place_of (names_of n.columns) name ≡ o → (o ≡ None → length n.columns < most_columns)
    → Holds (record (told_in n) { columns = with_name n.columns name marked }) (record n { columns = with_name n.columns name marked })
keeps_columns n name marked (Some k) h good e few =
    let same : with_name n.columns name marked ≡ n.columns = rw e refl in
    let P : List (List ℕ × Bool) → Type 0 = λ l. Holds (record (told_in n) { columns = l }) (record n { columns = l }) in
    subst P (sym same) (record { told_is = refl; sound = h })
keeps_columns n name marked None h good e few =
    let same : with_name n.columns name marked ≡ n.columns ++ (name, marked) ∷ [] = rw e refl in
    let P : List (List ℕ × Bool) → Type 0 = λ l. Holds (record (told_in n) { columns = l }) (record n { columns = l }) in
    subst P (sym same) (new_column n name marked h good e (few refl))
