-- Lines of COLUMNS.
use Rattle.std.proofs.Common.{◌≡◌, ℕ, ◌+◌, ◌<◌, Bool, true, false, List, [], ◌∷◌, ◌++◌, length, Option, Some, None, Result, Ok, Err, refl, sym, ap, subst, ◌∙◌, arith}
use Rattle.std.specs.Prelude.{nat_le}
use Rattle.std.proofs.lemmas.Bool.Decides.{nat_tests}
use Rattle.program_law.specs.Places.{place_of}
use Rattle.program_law.specs.Program.{IsName}
use Rattle.mps_tokens.specs.declared.words.RowKind.{RowKind}
use Rattle.mps_tokens.specs.Numbers.{number_of}
use Rattle.mps_grammar.specs.declared.kinds.FaultKind.{FaultKind}
use Rattle.mps_grammar.specs.declared.kinds.FaultKind.TheVariants as kinds
use Rattle.mps_tokens.specs.declared.words.Section.TheVariants as sections
use Rattle.mps_grammar.specs.Fields.{Pair, is_marker, entries_in}
use Rattle.named_things.specs.Named.{names_of}
use Rattle.mps_grammar.specs.Told.{Told, Telling, used_names, is_told, with_column, with_pairs}
use Rattle.mps_grammar.specs.After.{told_more}
use Rattle.mps_grammar.specs.Faults.{first_of, gives_twice, has_long, data_tests}
use Rattle.mps_notes.specs.declared.numbers.Entry.{Entry}
use Rattle.mps_fields.specs.declared.pairs.Item.{Item}
use Rattle.mps_notes.specs.declared.notes.Notes.{Notes}
use Rattle.mps_sections.specs.declared.stop.LineStop.{LineStop}
use Rattle.mps_sections.specs.declared.stop.LineStop.TheVariants as stops
use Rattle.mps_notes.specs.Twice.{is_counted, twice_at}
use Rattle.mps_fields.specs.Resolved.{pair_tests, AreItems}
use Rattle.mps_notes.specs.Placed.{row_place, second_place, items_entries}
use Rattle.mps_notes.specs.Told.{tellings_of}
use Rattle.mps_notes.specs.Notes.{told_in, IsSound}
use Rattle.mps_notes.specs.Notes.{Holds, with_name}
use Rattle.mps_sections.specs.Steps.{item_tests, is_too_many, PlacesColumn, TakesItems, TakesData}
use Rattle.named_things.proofs.PlaceLemmas.{place_pushed}
use Rattle.mps_notes.proofs.RowLemmas.{names_push, names_length}
use Rattle.mps_sections.proofs.TestChains.{first_front, first_rest}
use Rattle.mps_notes.proofs.Twice.{twice_same}
use Rattle.mps_notes.proofs.Puts.{place_for, put_done}
use Rattle.mps_notes.proofs.Sound.{keeps_columns, keeps_entries}

-- ---- the column

below_limit : (k : ℕ) → k < 128 → nat_le 128 k ≡ false
below_limit k lt = grind (arith, nat_tests)

pub column_put : (old new : List (List ℕ × Bool)) (name n : List ℕ) (marked : Bool) (j : ℕ) → n ≡ name → place_of (names_of old) name ≡ None → length old < 128 → j ≡ length old → new ≡ old ++ (n, marked) ∷ [] → PlacesColumn old new name marked (Ok j)
column_put old new name n marked j same absent few at is =
    let now : new ≡ old ++ (name, marked) ∷ [] = is ∙ rw same refl in
    let names : names_of new ≡ names_of old ++ name ∷ [] = ap names_of now ∙ names_push old name marked in
    let last : length (names_of old) ≡ j = names_length old ∙ sym at in
    (rw (absent, below_limit (length old) few) refl, ap (λ l. place_of l name) names ∙ place_pushed (names_of old) name absent ∙ ap (λ (k : ℕ). Some k) last, now ∙ rw absent refl)

-- ---- the items of a line

pub second_is : (rows : List (List ℕ × RowKind)) (o : Option Item) → second_place rows o ≡ place_for (names_of rows) (used_names rows) o
second_is rows None = refl
second_is rows (Some item) = refl

module _ (n : Notes) (name : List ℕ) (pairs : List Pair) (first : Item) (second : Option Item) (h : IsSound n) (items : AreItems (names_of n.rows) number_of pairs first second) where
  test_is : gives_twice (is_counted n.rows) (is_told (told_in n).entries name) pairs ≡ twice_at n.entries (place_of (names_of n.columns) name) (row_place n.rows first.place) (second_place n.rows second)
  test_is = twice_same (names_of n.columns) n.rows n.entries name (place_of (names_of n.columns) name) number_of pairs first second h.columns_differ h.entries refl items

  -- the test by the places that were found
  pub test_from : (column one other : Option ℕ) (b : Bool) → column ≡ place_of (names_of n.columns) name → one ≡ row_place n.rows first.place → other ≡ second_place n.rows second → b ≡ twice_at n.entries column one other
      → gives_twice (is_counted n.rows) (is_told (told_in n).entries name) pairs ≡ b
  test_from column one other b e f g is = test_is ∙ sym (is ∙ rw (e, f, g) refl)

  pub given_twice : gives_twice (is_counted n.rows) (is_told (told_in n).entries name) pairs ≡ true → first_of (item_tests (told_in n) name pairs) ≡ Some kinds.EntryTwice
  given_twice e = rw e refl

  pub column_fails : (columns : List (List ℕ × Bool)) (new : Notes) (stop : LineStop) → gives_twice (is_counted n.rows) (is_told (told_in n).entries name) pairs ≡ false → PlacesColumn n.columns columns name n.begun (Err stop) → TakesItems n name pairs new (Err stop)
  column_fails columns new stops.Memory e p = tt
  column_fails columns new (stops.Fault kind) e p = rw (e, p.1) (ap (λ (k : FaultKind). Some k) (sym p.0))

  -- there is room for a column that isn't there yet
  room : is_too_many n.columns name ≡ false → place_of (names_of n.columns) name ≡ None → length n.columns < 128
  room t absent =
      let few : nat_le 128 (length n.columns) ≡ false = rw absent at t in
      grind (arith, nat_tests)

  pub items_put : (columns : List (List ℕ × Bool)) (j : ℕ) (one other : Option ℕ) (new : List Entry) → IsName name → gives_twice (is_counted n.rows) (is_told (told_in n).entries name) pairs ≡ false → PlacesColumn n.columns columns name n.begun (Ok j)
      → one ≡ row_place n.rows first.place → other ≡ second_place n.rows second
      → new ≡ n.entries ++ items_entries (n.lines + 1) j (record { first = first; second = second }) (record { first = one; second = other })
      → TakesItems n name pairs (record n { columns = columns; entries = new }) (Ok tt)
  items_put columns j one other new good e p f g is =
      let cols = with_name n.columns name n.begun in
      let wide = keeps_columns n name n.begun (place_of (names_of n.columns) name) h good refl (room p.0) in
      let at : place_of (names_of cols) name ≡ Some j = ap (λ (l : List (List ℕ × Bool)). place_of (names_of l) name) (sym p.2) ∙ p.1 in
      let put = put_done (names_of cols) (names_of n.rows) (used_names n.rows) name (n.lines + 1) j number_of at n.entries new pairs first second one other wide.sound.entries items f (g ∙ second_is n.rows second) is in
      let told : tellings_of (names_of cols) (names_of n.rows) new ≡ with_pairs number_of (n.lines + 1) name pairs (told_in n).entries =
      put.numbers ∙ ap (λ (ts : List Telling). with_pairs number_of (n.lines + 1) name pairs ts) (ap (λ (t : Told). t.entries) wide.told_is) in
      let done = keeps_entries (record n { columns = cols }) new (with_pairs number_of (n.lines + 1) name pairs (told_in n).entries) wide.sound put.entries told in
      let P : List (List ℕ × Bool) → Type 0 = λ l. Holds (record (told_in n) { columns = cols; entries = with_pairs number_of (n.lines + 1) name pairs (told_in n).entries }) (record n { columns = l; entries = new }) in
      (rw (e, p.0) refl, subst P (sym p.2) (record { told_is = done.told_is ∙ ap (λ (t : Told). record t { entries = with_pairs number_of (n.lines + 1) name pairs (told_in n).entries }) wide.told_is; sound = done.sound }))

-- ---- a line of entries

module _ (n new : Notes) (fields : List (List ℕ)) (name : List ℕ) (pairs : List Pair) (plain : is_marker fields ≡ false) (form : entries_in fields ≡ Some (name, pairs)) (short : has_long (name, pairs) ≡ false) where
  rests : data_tests (told_in n) sections.Columns fields ≡ (false, kinds.NameLong) ∷ pair_tests (names_of n.rows) number_of pairs ++ item_tests (told_in n) name pairs
  rests = rw (plain, form, short) refl

  more : told_more (told_in n) sections.Columns fields ≡ record (told_in n) {
    columns = with_column n.begun n.columns (Some (name, pairs));
    entries = with_pairs number_of (n.lines + 1) name pairs (told_in n).entries;
  }
  more = rw (plain, form) refl

  pub entries_fail : (kind : FaultKind) → first_of (pair_tests (names_of n.rows) number_of pairs) ≡ Some kind → first_of (data_tests (told_in n) sections.Columns fields) ≡ Some kind
  entries_fail kind e = ap first_of rests ∙ first_front (pair_tests (names_of n.rows) number_of pairs) (item_tests (told_in n) name pairs) kind e

  same_fault : first_of (pair_tests (names_of n.rows) number_of pairs) ≡ None → first_of (data_tests (told_in n) sections.Columns fields) ≡ first_of (item_tests (told_in n) name pairs)
  same_fault e = ap first_of rests ∙ first_rest (pair_tests (names_of n.rows) number_of pairs) (item_tests (told_in n) name pairs) e

  pub entries_go : (r : Result Unit LineStop) → first_of (pair_tests (names_of n.rows) number_of pairs) ≡ None → TakesItems n name pairs new r → TakesData n sections.Columns fields new r
  entries_go (Ok u) e t = let P : Told → Type 0 = λ told. Holds told new in (same_fault e ∙ t.0, subst P (sym more) t.1)
  entries_go (Err stops.Memory) e t = tt
  entries_go (Err (stops.Fault kind)) e t = same_fault e ∙ t
