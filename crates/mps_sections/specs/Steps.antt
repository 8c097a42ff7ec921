-- What a data line does to what is kept.
use Rattle.std.specs.Prelude.{◌≡◌, ℕ, ◌+◌, ◌&&◌, nat_le, Bool, is_none, true, false, List, [], ◌∷◌, ◌++◌, length, Option, Some, None, Result, Ok, Err, ⊤, if◌then◌else◌}
use Rattle.rational.specs.Rational.{ℚ}
use Rattle.program_law.specs.Places.{place_of}
use Rattle.program_law.specs.Program.{most_columns}
use Rattle.mps_tokens.specs.Numbers.{number_of}
use Rattle.mps_tokens.specs.declared.words.Section.{Section}
use Rattle.mps_tokens.specs.declared.words.Section.TheVariants as sections
use Rattle.mps_tokens.specs.declared.words.RowKind.{RowKind}
use Rattle.mps_tokens.specs.declared.words.BoundKind.{BoundKind}
use Rattle.mps_grammar.specs.declared.kinds.FaultKind.{FaultKind}
use Rattle.mps_grammar.specs.declared.kinds.FaultKind.TheVariants as kinds
use Rattle.mps_grammar.specs.Fields.{Pair, Entries, Bounded}
use Rattle.named_things.specs.Named.{names_of}
use Rattle.mps_grammar.specs.Told.{Told, used_names, is_told, with_column, with_pairs, set_of, first_named, is_used, with_sides, with_bound, bound_value, quadratic_number}
use Rattle.mps_grammar.specs.After.{told_more}
use Rattle.mps_grammar.specs.Faults.{Tests, first_of, gives_twice, counts_row, any_pair, is_given_pair, named_row_tests, bounded_tests, of_number, is_no_number, is_past, data_tests}
use Rattle.mps_sections.specs.declared.stop.LineStop.{LineStop}
use Rattle.mps_sections.specs.declared.stop.LineStop.TheVariants as stops
use Rattle.mps_notes.specs.declared.notes.Notes.{Notes}
use Rattle.mps_notes.specs.declared.sides.Sides.{Sides}
use Rattle.mps_notes.specs.declared.bounds.Bound.{Bound}
use Rattle.mps_notes.specs.declared.bounds.Bounds.{Bounds}
use Rattle.mps_notes.specs.Told.{tellings_of, AreEntries, text_in}
use Rattle.mps_notes.specs.Notes.{no_column, told_in, Holds, with_name}
use Rattle.mps_notes.specs.Twice.{is_counted}

-- No test holds and all is done, or the fault is that of the first test that holds, or memory ran out.
abbrev pub Judged : {A : Type 0} → Tests → (A → Type 0) → Result A LineStop → Type 0
Judged tests done (Ok a) = (first_of tests ≡ None) × done a
Judged tests done (Err stops.Memory) = ⊤
Judged tests done (Err (stops.Fault kind)) = first_of tests ≡ Some kind

abbrev pub TakesData : Notes → Section → List (List ℕ) → Notes → Result Unit LineStop → Type 0
TakesData old section fields new result = Judged (data_tests (told_in old) section fields) (λ done. Holds (told_more (told_in old) section fields) new) result

-- a row with its kind and its name
abbrev pub TakesNamed : Notes → RowKind → List ℕ → Notes → Result Unit LineStop → Type 0
TakesNamed old kind name new result =
    Judged (named_row_tests (told_in old) kind (Some name)) (λ done. Holds (record (told_in old) { rows = old.rows ++ (name, kind) ∷ [] }) new) result

-- the pairs of a column with this name, whose rows are known and whose numbers are read
abbrev pub item_tests : Told → List ℕ → List Pair → Tests
item_tests told name pairs =
    (gives_twice (counts_row told) (is_told told.entries name) pairs, kinds.EntryTwice) ∷ (is_none (place_of (names_of told.columns) name) && nat_le most_columns (length told.columns), kinds.TooMany) ∷ []

abbrev pub TakesItems : Notes → List ℕ → List Pair → Notes → Result Unit LineStop → Type 0
TakesItems old name pairs new result =
    Judged (item_tests (told_in old) name pairs)
    (λ done. Holds (record (told_in old) {
      columns = with_column old.begun old.columns (Some (name, pairs));
      entries = with_pairs number_of (old.lines + 1) name pairs (told_in old).entries;
    }) new) result

-- whether a column is one too many
abbrev pub is_too_many : List (List ℕ × Bool) → List ℕ → Bool
is_too_many columns name = is_none (place_of (names_of columns) name) && nat_le most_columns (length columns)

-- a column has its place, or there are too many
abbrev pub PlacesColumn : List (List ℕ × Bool) → List (List ℕ × Bool) → List ℕ → Bool → Result ℕ LineStop → Type 0
PlacesColumn old new name marked (Ok place) = (is_too_many old name ≡ false) × (place_of (names_of new) name ≡ Some place) × (new ≡ with_name old name marked)
PlacesColumn old new name marked (Err stops.Memory) = ⊤
PlacesColumn old new name marked (Err (stops.Fault kind)) = (kind ≡ kinds.TooMany) × (is_too_many old name ≡ true)

-- a line of right sides or ranges of these rows
pub record SidesDone (rows : List (List ℕ × RowKind)) (old new : Sides) (line : ℕ) (sides : Option Entries) : Type 0 where
  pub set : text_in new.set ≡ first_named (text_in old.set) (set_of sides)
  pub entries : AreEntries no_column (names_of rows) (used_names rows) new.numbers
  pub numbers : tellings_of no_column (names_of rows) new.numbers ≡ with_sides (text_in old.set) line sides (tellings_of no_column (names_of rows) old.numbers)

-- the pairs of a line of this set, whose rows are known and whose numbers are read
abbrev pub TakesSideItems : List (List ℕ × RowKind) → Sides → ℕ → List ℕ → List Pair → Sides → Result Unit LineStop → Type 0
TakesSideItems rows old line set pairs new result =
    Judged ((is_used (text_in old.set) set && gives_twice (is_counted rows) (is_told (tellings_of no_column (names_of rows) old.numbers) []) pairs, kinds.EntryTwice) ∷ [])
    (λ done. SidesDone rows old new line (Some (set, pairs))) result

abbrev pub sides_section : Bool → Section
sides_section ranges = if ranges then sections.Ranges else sections.Rhs

-- the number of a bound
abbrev pub ReadsBound : Option (List ℕ) → Result ℚ FaultKind → Type 0
ReadsBound number (Ok value) = (first_of ((of_number is_no_number number, kinds.NumberText) ∷ (of_number is_past number, kinds.NumberPast) ∷ []) ≡ None) × (value ≡ bound_value number)
ReadsBound number (Err kind) = first_of ((of_number is_no_number number, kinds.NumberText) ∷ (of_number is_past number, kinds.NumberPast) ∷ []) ≡ Some kind

-- a bound is put last, where its set is the used one
pub record BoundDone (old new : Bounds) (set : List ℕ) (bound : Bound) : Type 0 where
  pub set_is : text_in new.set ≡ first_named (text_in old.set) (Some set)
  pub items_are : new.items.items ≡ (if is_used (text_in old.set) set then old.items.items ++ bound ∷ [] else old.items.items)

abbrev pub TakesBounded : Notes → BoundKind → Bounded → Notes → Result Unit LineStop → Type 0
TakesBounded old kind bounded new result =
    Judged (bounded_tests (told_in old) (Some bounded))
    (λ done. Holds (record (told_in old) {
      bound_set = first_named (text_in old.bounds.set) (Some bounded.set);
      bounds = with_bound (text_in old.bounds.set) (Some (kind, bounded)) (told_in old).bounds;
    }) new) result

abbrev pub is_half : Section → Bool
is_half sections.DMatrix = true
is_half other = false

-- the pairs of a column with this name in a quadratic section, whose columns are known and whose numbers are read
abbrev pub TakesPairItems : Notes → Section → List ℕ → List Pair → Notes → Result Unit LineStop → Type 0
TakesPairItems old section name pairs new result =
    Judged ((gives_twice any_pair (is_given_pair section (told_in old).pairs name) pairs, kinds.EntryTwice) ∷ [])
    (λ done. Holds (record (told_in old) { pairs = with_pairs (quadratic_number section) (old.lines + 1) name pairs (told_in old).pairs }) new) result
