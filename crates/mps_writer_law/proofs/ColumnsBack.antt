-- The columns of a program's text are read back.
use Rattle.std.specs.Prelude.{◌≡◌, ◌<◌, ◌+◌, ◌&&◌, ◌||◌, nat_le, ℕ, suc, Bool, true, false, List, [], ◌∷◌, ◌++◌, map, length, Option, Some, None, Result, Ok, is_some, is_none, codes, if◌then◌else◌}
use Rattle.std.proofs.Common.{arith, refl, sym, ap, append_assoc, ◌∙◌}
use Rattle.std.specs.Str.{bytes_eq}
use Rattle.std.proofs.lemmas.Bool.Decides.{nat_tests}
use Rattle.rational.specs.Rational.{ℚ, Fits}
use Rattle.frac_core.specs.Parts.{max_part}
use Rattle.frac_core.specs.Text.{text_of}
use Rattle.rational.specs.Tests.{is_zero}
use Rattle.program_law.specs.Program.{Program, IsProgram, marker}
use Rattle.rational.specs.Sums.{entry}
use Rattle.rational.specs.Vectors.{row_at}
use Rattle.program_law.specs.Places.{place_of}
use Rattle.mps_tokens.specs.Numbers.{number_of}
use Rattle.mps_tokens.specs.declared.fault.NumberFault.{NumberFault}
use Rattle.mps_tokens.specs.declared.words.Section.TheVariants as sections
use Rattle.mps_grammar.specs.declared.kinds.FaultKind.TheVariants as kinds
use Rattle.mps_grammar.specs.Fields.{Entries}
use Rattle.named_things.specs.Named.{names_of}
use Rattle.mps_grammar.specs.Told.{Told, Telling, is_told, with_column, with_entries, value_or_zero}
use Rattle.mps_grammar.specs.Faults.{first_of, is_long, is_no_number, is_past, counts_row, entry_tests, marker_tests, data_tests}
use Rattle.mps_writer_law.specs.Lines.{each, number_line}
use Rattle.mps_writer_law.specs.Small.{HasSmallNumbers}
use Rattle.mps_writer_law.specs.Canonical.{row_name, column_name, is_marked, marked_before, turn_lines, cost_line, entry_lines, column_lines, columns_lines}
use Rattle.mps_writer_law.proofs.Numerals.{number_back}
use Rattle.mps_writer_law.proofs.Erased.{erase, bare}
use Rattle.mps_writer_law.proofs.Fields.{IsWord, number_word}
use Rattle.mps_writer_law.proofs.Lookups.{each_back, map-each, length-each, known_cons, known_each, unknown_each, same_bytes, telling, none_told, or_true}
use Rattle.mps_writer_law.proofs.Names.{row_word, column_word, objective_word, row_short, column_short, objective_short, columns_differ, row_no_marker, objective_no_marker}
use Rattle.mps_writer_law.proofs.Runs.{Lead, lead_on, lead_to, lead_each, takes_data, takes_header}
use Rattle.mps_writer_law.proofs.RowsBack.{names_told}
use Rattle.mps_writer_law.proofs.EntriesBack.{before_column, before_entry, entries_bare, append_bare, each_bare, unless_zero_bare}
use Rattle.mps_writer_law.proofs.Stages.{told_rows, told_columns, in_rows, in_columns, entry_told, entries_told}

-- ---- markers

-- a mark turns, or stays
turn_read : (p : Program) (n : ℕ) (es : List Telling) → map bare es ≡ es → (before now : Bool) → Lead (in_columns p n before es) (turn_lines before now) (in_columns p n now es)
turn_read p n es e false false = refl
turn_read p n es e true true = refl
turn_read p n es e false true =
    let t = takes_data (in_columns p n false es) sections.Columns (sections.Rows ∷ sections.Name ∷ []) (codes "MARKER") (marker ∷ codes "'INTORG'" ∷ []) refl (record { word = refl }, (record { word = refl }, (record { word = refl }, tt))) refl in
    (t.0, t.1 ∙ ap (λ (xs : List Telling). in_columns p n true xs) e)
turn_read p n es e true false =
    let t = takes_data (in_columns p n true es) sections.Columns (sections.Rows ∷ sections.Name ∷ []) (codes "MARKER") (marker ∷ codes "'INTEND'" ∷ []) refl (record { word = refl }, (record { word = refl }, (record { word = refl }, tt))) refl in
    (t.0, t.1 ∙ ap (λ (xs : List Telling). in_columns p n false xs) e)

-- ---- lines with one entry

pub no_text : (r : Result ℚ NumberFault) (q : ℚ) → r ≡ Ok q → is_no_number r ≡ false
no_text r q e = rw e refl

pub no_past : (r : Result ℚ NumberFault) (q : ℚ) → r ≡ Ok q → is_past r ≡ false
no_past r q e = rw e refl

pub is_known : (o : Option ℕ) → is_some o ≡ true → is_none o ≡ false
is_known (Some n) e = refl
is_known None e = absurd cc

six_none : (a b c d e f : Bool) → a ≡ false → b ≡ false → c ≡ false → d ≡ false → e ≡ false → f ≡ false
    → first_of ((a, kinds.NameLong) ∷ (b, kinds.NameUnknown) ∷ (c, kinds.NumberText) ∷ (d, kinds.NumberPast) ∷ (e, kinds.EntryTwice) ∷ (f, kinds.TooMany) ∷ []) ≡ None
six_none a b c d e f g h i j k l = rw (g, h, i, j, k, l) refl

pub not_twice : (counts told : Bool) → told ≡ false → ((counts && (told || false)) || false) ≡ false
not_twice true told e = rw e refl
not_twice false told e = refl

pub long_none : (a b : Bool) → a ≡ false → b ≡ false → (a || (b || false)) ≡ false
long_none a b e f = rw (e, f) refl

pub one_none : (a : Bool) → a ≡ false → (a || false) ≡ false
one_none a e = rw e refl

-- an entry that is new, with names that are known and short
record IsNextEntry (told : Told) (head name : List ℕ) (q : ℚ) : Type 0 where
  head_word : IsWord head
  name_word : IsWord name
  short_head : is_long head ≡ false
  short_name : is_long name ≡ false
  no_marker : bytes_eq name marker ≡ false
  known : is_some (place_of (names_of told.rows) name) ≡ true
  small : Fits max_part q
  new : is_told told.entries head name ≡ false
  room : (is_none (place_of (names_of told.columns) head) && nat_le 128 (length told.columns)) ≡ false

entry_none : (told : Told) (head name : List ℕ) (q : ℚ) → IsNextEntry told head name q → first_of (entry_tests told (Some (head, (name, text_of q) ∷ []))) ≡ None
entry_none told head name q h =
    six_none _ _ _ _ _ _ (long_none _ _ h.short_head h.short_name) (one_none _ (is_known _ h.known)) (one_none _ (no_text _ q (number_back q h.small))) (one_none _ (no_past _ q (number_back q h.small)))
    (not_twice (counts_row told name) (is_told told.entries head name) h.new) h.room

test_chosen : (told : Told) (b : Bool) (fields : List (List ℕ)) (e : Option Entries) → b ≡ false → (if b then marker_tests told fields else entry_tests told e) ≡ entry_tests told e
test_chosen told b fields e h = rw h refl

told_chosen : (p : Program) (n : ℕ) (b : Bool) (es : List Telling) (m w : Bool) (e : Entries) → m ≡ false
    → erase (record (in_columns p n b es) { columns = with_column b (told_columns p n) (if m then None else Some e); begun = if m then w else b; entries = with_entries number_of (0 + 1) (if m then None else Some e) es })
    ≡ erase (record (in_columns p n b es) { columns = with_column b (told_columns p n) (Some e); entries = with_entries number_of (0 + 1) (Some e) es })
told_chosen p n b es m w e h = rw h refl

-- one line with an entry
entry_read : (p : Program) (n m : ℕ) (b : Bool) (es : List Telling) (head name : List ℕ) (q : ℚ) → map bare es ≡ es → IsNextEntry (in_columns p n b es) head name q
    → with_column b (told_columns p n) (Some (head, (name, text_of q) ∷ [])) ≡ told_columns p m
    → Lead (in_columns p n b es) (number_line (head ∷ name ∷ []) q ∷ []) (in_columns p m b (telling head name q ∷ es))
entry_read p n m b es head name q plain h columns =
    let told = in_columns p n b es in
    let fields : List (List ℕ) = head ∷ name ∷ text_of q ∷ [] in
    let none : first_of (data_tests (in_columns p n b es) sections.Columns (head ∷ name ∷ text_of q ∷ [])) ≡ None =
    ap first_of (test_chosen (in_columns p n b es) (bytes_eq name marker) (head ∷ name ∷ text_of q ∷ []) (Some (head, (name, text_of q) ∷ [])) h.no_marker) ∙ entry_none (in_columns p n b es) head name q h in
    let t = takes_data (in_columns p n b es) sections.Columns (sections.Rows ∷ sections.Name ∷ []) head (name ∷ text_of q ∷ []) refl (h.head_word, (h.name_word, (number_word q h.small, tt))) none in (
      t.0,
      t.1
          ∙ told_chosen p n b es (bytes_eq name marker) _ (head, (name, text_of q) ∷ []) h.no_marker
          ∙ ap (λ (cs : List (List ℕ × Bool)). record (in_columns p n b []) { columns = cs; entries = telling head name (value_or_zero (number_of (text_of q))) ∷ map bare es }) columns
          ∙ ap (λ (v : ℚ). in_columns p m b (telling head name v ∷ map bare es)) (ap value_or_zero (number_back q h.small))
          ∙ ap (λ (us : List Telling). in_columns p m b (telling head name q ∷ us)) plain,
    )

with_new : (b : Bool) (cs : List (List ℕ × Bool)) (e : Entries) → is_some (place_of (names_of cs) e.0) ≡ false → with_column b cs (Some e) ≡ cs ++ (e.0, b) ∷ []
with_new b cs e h = rw h refl

with_known : (b : Bool) (cs : List (List ℕ × Bool)) (e : Entries) → is_some (place_of (names_of cs) e.0) ≡ true → with_column b cs (Some e) ≡ cs
with_known b cs e h = rw h refl

known_room : (o : Option ℕ) (b : Bool) → is_some o ≡ true → (is_none o && b) ≡ false
known_room (Some n) b e = refl
known_room None b e = absurd cc

new_room : (b : Bool) (n : ℕ) → n < 128 → (b && nat_le 128 n) ≡ false
new_room b n lt = by b (below n lt)
  where
    below : (n : ℕ) → n < 128 → nat_le 128 n ≡ false
    below n lt = grind (arith, nat_tests)

    by : (b : Bool) → nat_le 128 n ≡ false → (b && nat_le 128 n) ≡ false
    by true e = e
    by false e = refl

module _ (p : Program) (good : IsProgram p) (small : HasSmallNumbers p) where
  pub columns_named : (n : ℕ) → names_of (told_columns p n) ≡ each n (λ j. column_name p j ∷ [])
  columns_named n = map-each (λ (c : List ℕ × Bool). c.0) n (λ j. (column_name p j, is_marked p j) ∷ [])

  new_column : (j : ℕ) → j < length p.columns → is_some (place_of (names_of (told_columns p j)) (column_name p j)) ≡ false
  new_column j lt =
      ap (λ (names : List (List ℕ)). is_some (place_of names (column_name p j))) (columns_named j)
      ∙ unknown_each j (column_name p) (column_name p j) (λ k less. columns_differ p good j k lt (omega (arith, less)) (λ e. omega (arith, less)))

  pub known_column : (n j : ℕ) → j < n → is_some (place_of (names_of (told_columns p n)) (column_name p j)) ≡ true
  known_column n j lt = ap (λ (names : List (List ℕ)). is_some (place_of names (column_name p j))) (columns_named n) ∙ known_each n (column_name p) j lt

  pub objective_known : is_some (place_of (names_of (told_rows p (length p.rows))) p.objective) ≡ true
  objective_known =
      ap (λ (names : List (List ℕ)). is_some (place_of names p.objective)) (names_told p good (length p.rows))
      ∙ known_cons p.objective (each (length p.rows) (λ i. row_name p i ∷ [])) p.objective ∙ rw (same_bytes p.objective) refl

  pub row_known : (i : ℕ) → i < length p.rows → is_some (place_of (names_of (told_rows p (length p.rows))) (row_name p i)) ≡ true
  row_known i lt =
      ap (λ (names : List (List ℕ)). is_some (place_of names (row_name p i))) (names_told p good (length p.rows))
      ∙ known_cons p.objective (each (length p.rows) (λ i. row_name p i ∷ [])) (row_name p i)
      ∙ rw (known_each (length p.rows) (row_name p) i lt) (or_true (bytes_eq (row_name p i) p.objective))

  cost_read : (j : ℕ) → j < length p.columns → Lead (in_columns p j (is_marked p j) (entries_told p j)) (cost_line p j ∷ [])
      (in_columns p (suc j) (is_marked p j) (telling (column_name p j) p.objective (entry p.costs j) ∷ entries_told p j))
  cost_read j lt =
      entry_read p j (suc j) (is_marked p j) (entries_told p j) (column_name p j) p.objective (entry p.costs j) (entries_bare p j)
      (record {
        head_word = column_word p good j lt;
        name_word = objective_word p good;
        short_head = column_short p good j lt;
        short_name = objective_short p good;
        no_marker = objective_no_marker p good;
        known = objective_known;
        small = small.costs j;
        new = none_told (entries_told p j) (column_name p j) p.objective (before_column p good j p.objective lt);
        room = new_room (is_none (place_of (names_of (told_columns p j)) (column_name p j))) (length (told_columns p j)) (omega (arith, length-each {A = List ℕ × Bool} j (λ k. (column_name p k, is_marked p k)), good.few_columns));
      })
      (with_new (is_marked p j) (told_columns p j) (column_name p j, (p.objective, text_of (entry p.costs j)) ∷ []) (new_column j lt))

  -- what is told before an entry's line
  told_before : ℕ → ℕ → List Telling
  told_before j i = each_back i (entry_told p j) ++ telling (column_name p j) p.objective (entry p.costs j) ∷ entries_told p j

  before_bare : (j i : ℕ) → map bare (told_before j i) ≡ told_before j i
  unfolding told_before
  before_bare j i =
      append_bare (each_back i (entry_told p j)) (telling (column_name p j) p.objective (entry p.costs j) ∷ entries_told p j)
      (each_bare i (entry_told p j) (λ i. unless_zero_bare (column_name p j) (row_name p i) (entry (row_at p.entries i) j)))
      (ap (λ (us : List Telling). telling (column_name p j) p.objective (entry p.costs j) ∷ us) (entries_bare p j))

  entries_read : (j i : ℕ) → j < length p.columns → i < length p.rows → (b : Bool)
      → Lead (in_columns p (suc j) (is_marked p j) (told_before j i)) (if b then [] else number_line (column_name p j ∷ row_name p i ∷ []) (entry (row_at p.entries i) j) ∷ [])
      (in_columns p (suc j) (is_marked p j) ((if b then [] else telling (column_name p j) (row_name p i) (entry (row_at p.entries i) j) ∷ []) ++ told_before j i))
  unfolding told_before
  entries_read j i jt it true = refl
  entries_read j i jt it false =
      entry_read p (suc j) (suc j) (is_marked p j) (told_before j i) (column_name p j) (row_name p i) (entry (row_at p.entries i) j) (before_bare j i)
      (record {
        head_word = column_word p good j jt;
        name_word = row_word p good i it;
        short_head = column_short p good j jt;
        short_name = row_short p good i it;
        no_marker = row_no_marker p good i it;
        known = row_known i it;
        small = small.entries i j;
        new = none_told (told_before j i) (column_name p j) (row_name p i) (before_entry p good j i jt it);
        room = known_room (place_of (names_of (told_columns p (suc j))) (column_name p j)) (nat_le 128 (length (told_columns p (suc j)))) (known_column (suc j) j (omega arith));
      })
      (with_known (is_marked p j) (told_columns p (suc j)) (column_name p j, (row_name p i, text_of (entry (row_at p.entries i) j)) ∷ []) (known_column (suc j) j (omega arith)))

  row_entries_read : (j : ℕ) → j < length p.columns → Lead (in_columns p (suc j) (is_marked p j) (told_before j 0)) (each (length p.rows) (entry_lines p j)) (in_columns p (suc j) (is_marked p j) (told_before j (length p.rows)))
  unfolding told_before
  row_entries_read j jt =
      lead_each (length p.rows) (entry_lines p j) (λ i. in_columns p (suc j) (is_marked p j) (told_before j i))
      (λ i it. lead_to _ _ _ (entry_lines p j i)
      (ap (λ (es : List Telling). in_columns p (suc j) (is_marked p j) es) (sym (append_assoc (entry_told p j i) (each_back i (entry_told p j)) (telling (column_name p j) p.objective (entry p.costs j) ∷ entries_told p j))))
      (entries_read j i jt it (is_zero (entry (row_at p.entries i) j))))

  column_read : (j : ℕ) → j < length p.columns → Lead (in_columns p j (marked_before p j) (entries_told p j)) (column_lines p j) (in_columns p (suc j) (marked_before p (suc j)) (entries_told p (suc j)))
  unfolding told_before
  column_read j jt =
      lead_on _ _ _ (turn_lines (marked_before p j) (is_marked p j)) (cost_line p j ∷ each (length p.rows) (entry_lines p j)) (turn_read p j (entries_told p j) (entries_bare p j) (marked_before p j) (is_marked p j))
      (lead_on _ _ _ (cost_line p j ∷ []) (each (length p.rows) (entry_lines p j)) (cost_read j jt)
      (lead_to _ _ _ (each (length p.rows) (entry_lines p j))
      (ap (λ (es : List Telling). in_columns p (suc j) (is_marked p j) es) (sym (append_assoc (each_back (length p.rows) (entry_told p j)) (telling (column_name p j) p.objective (entry p.costs j) ∷ []) (entries_told p j))))
      (row_entries_read j jt)))

  columns_header : Lead (in_rows p (length p.rows)) (codes "COLUMNS" ∷ []) (in_columns p 0 false [])
  columns_header = takes_header (in_rows p (length p.rows)) (codes "COLUMNS") sections.Columns refl refl refl refl refl refl refl refl

  -- the section
  pub columns_read : Lead (in_rows p (length p.rows)) (columns_lines p) (in_columns p (length p.columns) false (entries_told p (length p.columns)))
  columns_read =
      lead_on _ _ _ (codes "COLUMNS" ∷ []) (each (length p.columns) (column_lines p) ++ turn_lines (marked_before p (length p.columns)) false) columns_header
      (lead_on _ _ _ (each (length p.columns) (column_lines p)) (turn_lines (marked_before p (length p.columns)) false)
      (lead_each (length p.columns) (column_lines p) (λ j. in_columns p j (marked_before p j) (entries_told p j)) column_read)
      (turn_read p (length p.columns) (entries_told p (length p.columns)) (entries_bare p (length p.columns)) (marked_before p (length p.columns)) false))
