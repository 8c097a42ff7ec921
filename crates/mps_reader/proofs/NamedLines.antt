-- Lines without a fault name rows and columns as a program may have them, and tell ranges that fit.
use Rattle.std.proofs.Common.{◌≡◌, ℕ, ◌+◌, ◌<◌, ◌≤◌, Bool, true, false, ◌&&◌, not, List, [], ◌∷◌, ◌++◌, length, take, Option, Some, None, Result, Ok, refl, sym, ap, subst, ◌∙◌, arith, if◌then◌else◌, option_to_list, is_some, is_none, length-append}
use Rattle.std.specs.Prelude.{nat_le}
use Rattle.std.specs.List.{list_all, AllByRecursion}
use Rattle.std.specs.Str.{bytes_eq}
use Rattle.std.proofs.lemmas.Bool.{and_parts, or_parts}
use Rattle.std.proofs.lemmas.Bool.Decides.{nat_tests}
use Rattle.rational.specs.Rational.{Fits}
use Rattle.frac_core.specs.Parts.{max_part}
use Rattle.program_law.specs.Places.{place_of}
use Rattle.program_law.specs.Program.{IsName, marker}
use Rattle.mps_tokens.specs.Lines.{without_return}
use Rattle.mps_tokens.specs.FieldsOf.{fields_of}
use Rattle.mps_tokens.specs.Cases.{named}
use Rattle.mps_tokens.specs.Words.{section_names}
use Rattle.mps_tokens.specs.Numbers.{number_of}
use Rattle.mps_tokens.specs.declared.words.Section.{Section}
use Rattle.mps_tokens.specs.declared.words.Section.TheVariants as sections
use Rattle.mps_tokens.specs.declared.words.RowKind.{RowKind}
use Rattle.mps_grammar.specs.declared.kinds.FaultKind.{FaultKind}
use Rattle.mps_grammar.specs.declared.kinds.FaultKind.TheVariants as kinds
use Rattle.mps_grammar.specs.Lines.{field, is_comment, is_passed, is_indented}
use Rattle.mps_grammar.specs.Fields.{Pair, Entries, row_kind_in, row_name_in, is_marker, entries_in, sides_in}
use Rattle.named_things.specs.Named.{names_of}
use Rattle.mps_grammar.specs.Told.{Told, Telling, row_told, with_column, value_or_zero, with_pairs, with_sides, is_used, told_by}
use Rattle.mps_grammar.specs.Faults.{first_of, is_long, named_row_tests, marker_tests, entry_tests, data_tests, section_tests, header_tests, shown_tests, is_beyond, is_plain, line_fault}
use Rattle.mps_grammar.specs.After.{told_more, told_within, told_header, told_shown, counted, told_after}
use Rattle.mps_grammar.specs.Verdict.{Fault, ends, unless, verdict}
use Rattle.mps_grammar.proofs.After.{told_line}
use Rattle.named_things.specs.Names.{Differ}
use Rattle.mps_notes.specs.Names.{AreNames}
use Rattle.mps_fields.specs.Words.{is_word}
use Rattle.named_things.proofs.NameLemmas.{absent_push, ne_sym, Differ-push}
use Rattle.mps_notes.proofs.RowLemmas.{names_push, all_push}
use Rattle.mps_fields.proofs.Words.{word_name, entries_word, words_of, head_short}
use Rattle.mps_reader.proofs.FileNumbers.{spelling_small}
use Rattle.mps_reader.proofs.SoundLines.{none_holds, not_parts, shown-none, row_cases, row_same}

pub record HasNames (told : Told) : Type 0 where
  pub rows : AreNames (names_of told.rows)
  pub rows_differ : Differ (names_of told.rows)
  pub no_marker : place_of (names_of told.rows) marker ≡ None
  pub columns : AreNames (names_of told.columns)
  pub columns_differ : Differ (names_of told.columns)
  pub few_columns : length told.columns ≤ 128
  pub ranges : AllByRecursion (λ t. Fits max_part t.value) told.ranges

-- what doesn't change rows, columns and ranges
same-names : (told more : Told) → HasNames told → more.rows ≡ told.rows → more.columns ≡ told.columns → more.ranges ≡ told.ranges → HasNames more
same-names told more h rows columns ranges = record {
  rows = rw rows h.rows;
  rows_differ = rw rows h.rows_differ;
  no_marker = rw rows h.no_marker;
  columns = rw columns h.columns;
  columns_differ = rw columns h.columns_differ;
  few_columns = rw columns h.few_columns;
  ranges = rw ranges h.ranges;
}

-- the first fields are words; no line with more of them has a form
abbrev AreWords : List (List ℕ) → Type 0
AreWords fields = list_all is_word (take 6 fields) ≡ true

-- ---- rows

row_word : (fields : List (List ℕ)) (name : List ℕ) → AreWords fields → row_name_in fields ≡ Some name → is_word name ≡ true
row_word [] name w e = absurd cc
row_word (a ∷ []) name w e = absurd cc
row_word (a ∷ b ∷ []) name w e =
    let same : b ≡ name = cc in
    rw (← same) (and_parts (is_word b) true (and_parts (is_word a) (list_all is_word (b ∷ [])) w).1).0
row_word (a ∷ b ∷ c ∷ rest) name w e = absurd cc

rows-named : (told : Told) (kind : Option RowKind) (name : Option (List ℕ)) → HasNames told → ((n : List ℕ) → name ≡ Some n → is_word n ≡ true) → first_of (row_cases told kind name) ≡ None → HasNames (record told { rows = told.rows ++ option_to_list (row_told name kind) })
rows-named told None name h word e = absurd cc
rows-named told (Some kind) None h word e = absurd cc
rows-named told (Some kind) (Some name) h word e =
    let tests = named_row_tests told kind (Some name) in
    let apart : bytes_eq name marker ≡ false = none_holds tests 0 e in
    let short : is_long name ≡ false = none_holds tests 1 e in
    let new : place_of (names_of told.rows) name ≡ None = absent (place_of (names_of told.rows) name) (none_holds tests 2 e) in
    let names : names_of (told.rows ++ (name, kind) ∷ []) ≡ names_of told.rows ++ name ∷ [] = names_push told.rows name kind in
    record {
      rows = rw names (all_push IsName (names_of told.rows) name h.rows (word_name name (word name refl) short));
      rows_differ = rw names (Differ-push (names_of told.rows) name h.rows_differ new);
      no_marker = rw names (absent_push (names_of told.rows) name marker h.no_marker (ne_sym name marker apart));
      columns = h.columns;
      columns_differ = h.columns_differ;
      few_columns = h.few_columns;
      ranges = h.ranges;
    }
  where
    absent : (o : Option ℕ) → is_some o ≡ false → o ≡ None
    absent None e = refl
    absent (Some k) e = absurd cc

-- ---- columns

below : (n : ℕ) → nat_le 128 n ≡ false → n < 128
below n e = grind (arith, nat_tests)

-- a column more, where a line names a new one
columns-named : (columns : List (List ℕ × Bool)) (name : List ℕ) (begun : Bool) → AreNames (names_of columns) → Differ (names_of columns) → length columns ≤ 128 → IsName name → (is_none (place_of (names_of columns) name) && nat_le 128 (length columns)) ≡ false
    → (let more : List (List ℕ × Bool) = if is_some (place_of (names_of columns) name) then columns else columns ++ (name, begun) ∷ [] in AreNames (names_of more) × Differ (names_of more) × (length more ≤ 128))
columns-named columns name begun good differ few is room = by_place (place_of (names_of columns) name) refl room
  where
    by_place : (o : Option ℕ) → place_of (names_of columns) name ≡ o → (is_none o && nat_le 128 (length columns)) ≡ false
        → (let more : List (List ℕ × Bool) = if is_some o then columns else columns ++ (name, begun) ∷ [] in AreNames (names_of more) × Differ (names_of more) × (length more ≤ 128))
    by_place (Some k) p r = (good, differ, few)
    by_place None p r =
        let names : names_of (columns ++ (name, begun) ∷ []) ≡ names_of columns ++ name ∷ [] = names_push columns name begun in (
          rw names (all_push IsName (names_of columns) name good is),
          rw names (Differ-push (names_of columns) name differ p),
          omega (arith, length-append columns ((name, begun) ∷ []), below (length columns) r),
        )

column_word : (fields : List (List ℕ)) (head : List ℕ) (pairs : List Pair) → AreWords fields → entries_in fields ≡ Some (head, pairs) → is_word head ≡ true
column_word [] head pairs w e = absurd cc
column_word (a ∷ []) head pairs w e = absurd cc
column_word (a ∷ b ∷ []) head pairs w e = absurd cc
column_word (a ∷ b ∷ c ∷ []) head pairs w e = entries_word (a ∷ b ∷ c ∷ []) head pairs w e
column_word (a ∷ b ∷ c ∷ d ∷ []) head pairs w e = absurd cc
column_word (a ∷ b ∷ c ∷ d ∷ f ∷ []) head pairs w e = entries_word (a ∷ b ∷ c ∷ d ∷ f ∷ []) head pairs w e
column_word (a ∷ b ∷ c ∷ d ∷ f ∷ g ∷ rest) head pairs w e = absurd cc

-- the columns after a line of COLUMNS
entries-named : (told : Told) (fields : List (List ℕ)) → HasNames told → AreWords fields → (entries : Option Entries) → entries_in fields ≡ entries → first_of (entry_tests told entries) ≡ None
    → (let more : List (List ℕ × Bool) = with_column told.begun told.columns entries in AreNames (names_of more) × Differ (names_of more) × (length more ≤ 128))
entries-named told fields h words None p e = absurd cc
entries-named told fields h words (Some entry) p e =
    let tests = entry_tests told (Some entry) in
    let short : is_long entry.0 ≡ false = head_short entry.0 entry.1 (none_holds tests 0 e) in
    let room : (is_none (place_of (names_of told.columns) entry.0) && nat_le 128 (length told.columns)) ≡ false = none_holds tests 5 e in
    columns-named told.columns entry.0 told.begun h.columns h.columns_differ h.few_columns (word_name entry.0 (column_word fields entry.0 entry.1 words p) short) room

columns-more : (told : Told) (fields : List (List ℕ)) → HasNames told → AreWords fields → first_of (data_tests told sections.Columns fields) ≡ None → HasNames (told_more told sections.Columns fields)
columns-more told fields h words e =
    let names = by_marker (is_marker fields) e in
    record {
      rows = h.rows;
      rows_differ = h.rows_differ;
      no_marker = h.no_marker;
      columns = names.0;
      columns_differ = names.1;
      few_columns = names.2;
      ranges = h.ranges;
    }
  where
    by_marker : (b : Bool) → first_of (if b then marker_tests told fields else entry_tests told (entries_in fields)) ≡ None
        → (let more : List (List ℕ × Bool) = with_column told.begun told.columns (if b then None else entries_in fields) in AreNames (names_of more) × Differ (names_of more) × (length more ≤ 128))
    by_marker true e = (h.columns, h.columns_differ, h.few_columns)
    by_marker false e = entries-named told fields h words (entries_in fields) refl e

-- ---- ranges

pairs-fit : (line : ℕ) (column : List ℕ) (pairs : List Pair) (told : List Telling) → AllByRecursion (λ t. Fits max_part t.value) told → AllByRecursion (λ t. Fits max_part t.value) (with_pairs number_of line column pairs told)
pairs-fit line column [] told h = h
pairs-fit line column (p ∷ ps) told h = pairs-fit line column ps (record { line = line; column = column; row = p.0; value = value_or_zero (number_of p.1) } ∷ told) (spelling_small p.1, h)

sides-fit : (set : Option (List ℕ)) (line : ℕ) (sides : Option Entries) (told : List Telling) → AllByRecursion (λ t. Fits max_part t.value) told → AllByRecursion (λ t. Fits max_part t.value) (with_sides set line sides told)
sides-fit set line None told h = h
sides-fit set line (Some e) told h = by_use (is_used set e.0)
  where
    by_use : (b : Bool) → AllByRecursion (λ t. Fits max_part t.value) (if b then with_pairs number_of line [] e.1 told else told)
    by_use true = pairs-fit line [] e.1 told h
    by_use false = h

ranges-more : (told : Told) (fields : List (List ℕ)) → HasNames told → HasNames (told_more told sections.Ranges fields)
ranges-more told fields h = record {
  rows = h.rows;
  rows_differ = h.rows_differ;
  no_marker = h.no_marker;
  columns = h.columns;
  columns_differ = h.columns_differ;
  few_columns = h.few_columns;
  ranges = sides-fit told.range_set (told.lines + 1) (sides_in fields) told.ranges h.ranges;
}

-- ---- a line more

data-named : (told : Told) (s : Section) (fields : List (List ℕ)) → HasNames told → AreWords fields → first_of (data_tests told s fields) ≡ None → HasNames (told_more told s fields)
data-named told sections.Name fields h words e = absurd cc
data-named told sections.Rows fields h words e = rows-named told (row_kind_in fields) (row_name_in fields) h (λ n p. row_word fields n words p) (ap first_of (sym (row_same told fields)) ∙ e)
data-named told sections.Columns fields h words e = columns-more told fields h words e
data-named told sections.Rhs fields h words e = same-names told _ h refl refl refl
data-named told sections.Ranges fields h words e = ranges-more told fields h
data-named told sections.Bounds fields h words e = same-names told _ h refl refl refl
data-named told sections.QuadObj fields h words e = same-names told _ h refl refl refl
data-named told sections.QMatrix fields h words e = same-names told _ h refl refl refl
data-named told sections.DMatrix fields h words e = same-names told _ h refl refl refl
data-named told sections.EndData fields h words e = absurd cc
data-named told sections.ObjSense fields h words e = absurd cc

within-named : (told : Told) (ss : List Section) (fields : List (List ℕ)) → HasNames told → AreWords fields → first_of (section_tests told ss fields) ≡ None → HasNames (told_within told ss fields)
within-named told [] fields h words e = absurd cc
within-named told (s ∷ ss) fields h words e = data-named told s fields h words e

-- the fields of a line that is shown are words
shown_words : (told : Told) (at : ℕ) (raw : List ℕ) → line_fault told at raw ≡ None → is_passed (without_return raw) ≡ false → AreWords (fields_of (without_return raw))
shown_words told at raw e shown =
    let line = without_return raw in
    let comment : is_comment line ≡ false = (or_parts (is_comment line) _ shown).0 in
    let unplain : (not (is_comment line) && not (is_plain line)) ≡ false = none_holds ((is_beyond at raw, kinds.TextLong) ∷ (not (is_comment line) && not (is_plain line), kinds.NotAscii) ∷ shown_tests told line) 1 e in
    words_of line (not_parts (is_plain line) (subst (λ (b : Bool). (not b && not (is_plain line)) ≡ false) comment unplain))

line-named : (told : Told) (at : ℕ) (raw : List ℕ) → HasNames told → line_fault told at raw ≡ None → HasNames (told_after told (without_return raw))
line-named told at raw h e =
    same-names (told_shown told (without_return raw)) (counted (told_shown told (without_return raw))) (by_kind (is_passed (without_return raw)) (is_indented (without_return raw)) (shown_words told at raw e) (shown-none told at raw e)) refl refl refl
  where
    by_kind : (passed indented : Bool) → (passed ≡ false → AreWords (fields_of (without_return raw)))
        → first_of (if passed then [] else (if indented then section_tests told told.sections (fields_of (without_return raw)) else header_tests told (named section_names (field (fields_of (without_return raw)) 0)))) ≡ None
        → HasNames (if passed then told else (if indented then told_within told told.sections (fields_of (without_return raw)) else told_header told (named section_names (field (fields_of (without_return raw)) 0))))
    by_kind true indented words e = h
    by_kind false true words e = within-named told told.sections (fields_of (without_return raw)) h (words refl) e
    by_kind false false words e = same-names told _ h refl refl refl

-- ---- all lines up to ENDATA

start-named : HasNames (told_by [])
start-named = record { rows = tt; rows_differ = tt; no_marker = refl; columns = tt; columns_differ = tt; few_columns = omega arith; ranges = tt }

pub verdict-named : (raws : List (List ℕ)) (at : ℕ) (earlier : List (List ℕ)) (v : List (List ℕ) × ℕ) → HasNames (told_by earlier) → verdict at earlier raws ≡ Ok v → HasNames (told_by v.0)
verdict-named [] at earlier v h e = absurd cc
verdict-named (raw ∷ raws) at earlier v h e =
    by_fault (line_fault (told_by earlier) at raw) (ends (without_return raw)) refl e (λ next f. verdict-named raws (at + length raw + 1) (without_return raw ∷ earlier) v next f)
  where
    lines_are : (a b : List (List ℕ) × ℕ) → (let r : Result (List (List ℕ) × ℕ) Fault = Ok a in r) ≡ Ok b → a ≡ b
    lines_are a b e = cc

    next_named : line_fault (told_by earlier) at raw ≡ None → HasNames (told_by (without_return raw ∷ earlier))
    next_named p = rw (told_line earlier (without_return raw)) (line-named (told_by earlier) at raw h p)

    by_fault : (o : Option FaultKind) (b : Bool) → line_fault (told_by earlier) at raw ≡ o
        → unless o (length earlier + 1) (if b then Ok (without_return raw ∷ earlier, at + length raw + 1) else verdict (at + length raw + 1) (without_return raw ∷ earlier) raws) ≡ Ok v
        → (HasNames (told_by (without_return raw ∷ earlier)) → verdict (at + length raw + 1) (without_return raw ∷ earlier) raws ≡ Ok v → HasNames (told_by v.0)) → HasNames (told_by v.0)
    by_fault (Some kind) b p e again = absurd cc
    by_fault None true p e again = subst (λ (v : List (List ℕ) × ℕ). HasNames (told_by v.0)) (lines_are (without_return raw ∷ earlier, at + length raw + 1) v e) (next_named p)
    by_fault None false p e again = again (next_named p) e

pub lines-named : (raws : List (List ℕ)) (v : List (List ℕ) × ℕ) → verdict 0 [] raws ≡ Ok v → HasNames (told_by v.0)
lines-named raws v e = verdict-named raws 0 [] v start-named e
