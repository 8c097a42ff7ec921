-- What the lines of a program file tell, by names. Each list is told by the lines of one section, and by no state.
use Rattle.std.specs.Prelude.{ℕ, ◌&&◌, Bool, true, false, List, [], ◌∷◌, ◌++◌, length, filter, Option, Some, None, Result, Ok, Err, is_some, unwrap_or, option_to_list, if◌then◌else◌}
use Rattle.std.specs.List.{list_any}
use Rattle.std.specs.Option.{option_map}
use Rattle.std.specs.Str.{bytes_eq}
use Rattle.rational.specs.Rational.{ℚ, zero_ℚ, ◌+ℚ◌}
use Rattle.program_law.specs.Places.{place_of}
use Rattle.named_things.specs.Named.{names_of}
use Rattle.mps_tokens.specs.declared.fault.NumberFault.{NumberFault}
use Rattle.mps_tokens.specs.Numbers.{number_of, fitted}
use Rattle.mps_tokens.specs.declared.words.Section.{Section}
use Rattle.mps_tokens.specs.declared.words.Section.TheVariants as sections
use Rattle.mps_tokens.specs.declared.words.RowKind.{RowKind}
use Rattle.mps_tokens.specs.declared.words.RowKind.TheVariants as row_kinds
use Rattle.mps_tokens.specs.declared.words.BoundKind.{BoundKind}
use Rattle.mps_grammar.specs.Lines.{Data, field, sections_by, data_by}
use Rattle.mps_grammar.specs.Fields.{Pair, Entries, Bounded, row_kind_in, row_name_in, is_marker, begins_stretch, entries_in, column_entries_in, sides_in, bound_in}

-- ---- sections

abbrev pub is_rows : Section → Bool
is_rows sections.Rows = true
is_rows other = false

abbrev pub is_columns : Section → Bool
is_columns sections.Columns = true
is_columns other = false

abbrev pub is_rhs : Section → Bool
is_rhs sections.Rhs = true
is_rhs other = false

abbrev pub is_ranges : Section → Bool
is_ranges sections.Ranges = true
is_ranges other = false

abbrev pub is_bounds : Section → Bool
is_bounds sections.Bounds = true
is_bounds other = false

abbrev pub is_quadratic : Section → Bool
is_quadratic sections.QuadObj = true
is_quadratic sections.QMatrix = true
is_quadratic sections.DMatrix = true
is_quadratic other = false

-- the lines that stand in such a section
abbrev pub lines_in : (Section → Bool) → List Data → List Data
lines_in test ds = filter (λ d. test d.section) ds

-- ---- rows

-- a row, where the line is one
abbrev pub row_told : Option (List ℕ) → Option RowKind → Option (List ℕ × RowKind)
row_told None kind = None
row_told (Some name) kind = option_map (λ k. (name, k)) kind

abbrev pub row_in : List (List ℕ) → Option (List ℕ × RowKind)
row_in fields = row_told (row_name_in fields) (row_kind_in fields)

-- the rows with their kinds, in order
abbrev pub rows_by : List Data → List (List ℕ × RowKind)
rows_by [] = []
rows_by (d ∷ earlier) = rows_by earlier ++ option_to_list (row_in d.fields)

-- whether a row of this kind is a row of the program: L, G or E
abbrev pub binds : RowKind → Bool
binds row_kinds.Objective = false
binds row_kinds.AtMost = true
binds row_kinds.AtLeast = true
binds row_kinds.Equal = true

-- the rows of the program
abbrev pub program_rows : List (List ℕ × RowKind) → List (List ℕ × RowKind)
program_rows rows = filter (λ r. binds r.1) rows

-- the objective: the first N row
abbrev pub objective_in : List (List ℕ × RowKind) → Option (List ℕ)
objective_in [] = None
objective_in (r ∷ rs) = if binds r.1 then objective_in rs else Some r.0

-- the names of the objective and of the program's rows. What further N rows are given isn't used.
abbrev pub used_names : List (List ℕ × RowKind) → List (List ℕ)
used_names rows = unwrap_or (objective_in rows) [] ∷ names_of (program_rows rows)

-- ---- columns

-- whether a stretch of marked columns is begun
abbrev pub begun_by : List Data → Bool
begun_by [] = false
begun_by (d ∷ earlier) = if is_marker d.fields then begins_stretch (field d.fields 2) else begun_by earlier

-- the columns with the one that a line names, where it is new; it is marked where a stretch is begun there
abbrev pub with_column : Bool → List (List ℕ × Bool) → Option Entries → List (List ℕ × Bool)
with_column begun columns None = columns
with_column begun columns (Some e) = if is_some (place_of (names_of columns) e.0) then columns else columns ++ (e.0, begun) ∷ []

-- the columns with their marks, in the order of their first lines
abbrev pub columns_by : List Data → List (List ℕ × Bool)
columns_by [] = []
columns_by (d ∷ earlier) = with_column (begun_by earlier) (columns_by earlier) (column_entries_in d.fields)

-- ---- numbers

-- A number that a line tells for a column and a row, or for two columns. A right side and a range are told under the empty name.
pub record Telling : Type 0 where
  pub line : ℕ
  pub column : List ℕ
  pub row : List ℕ
  pub value : ℚ

-- whether it is told for these two
abbrev pub is_at : List ℕ → List ℕ → Telling → Bool
is_at column row t = bytes_eq column t.column && bytes_eq row t.row

-- whether a number is told for these two
abbrev pub is_told : List Telling → List ℕ → List ℕ → Bool
is_told told column row = list_any (is_at column row) told

-- the number of a spelling, or 0 where it is none
abbrev pub value_or_zero : Result ℚ NumberFault → ℚ
value_or_zero (Ok q) = q
value_or_zero (Err fault) = zero_ℚ

-- the tellings with those of a line's pairs, of which the last one comes first
abbrev pub with_pairs : (List ℕ → Result ℚ NumberFault) → ℕ → List ℕ → List Pair → List Telling → List Telling
with_pairs read line column [] told = told
with_pairs read line column (pair ∷ pairs) told = with_pairs read line column pairs (record { line = line; column = column; row = pair.0; value = value_or_zero (read pair.1) } ∷ told)

abbrev pub with_entries : (List ℕ → Result ℚ NumberFault) → ℕ → Option Entries → List Telling → List Telling
with_entries read line None told = told
with_entries read line (Some e) told = with_pairs read line e.0 e.1 told

-- the entries of COLUMNS, the last one first
abbrev pub entries_by : List Data → List Telling
entries_by [] = []
entries_by (d ∷ earlier) = with_entries number_of d.line (column_entries_in d.fields) (entries_by earlier)

-- ---- sets

-- the first set named is the used one
abbrev pub first_named : Option (List ℕ) → Option (List ℕ) → Option (List ℕ)
first_named None name = name
first_named (Some set) name = Some set

-- whether a line's set is the used one, with the one that was used before it
abbrev pub is_used : Option (List ℕ) → List ℕ → Bool
is_used None name = true
is_used (Some set) name = bytes_eq name set

-- ---- right sides and ranges

abbrev pub set_of : Option Entries → Option (List ℕ)
set_of sides = option_map (λ e. e.0) sides

-- the used set of RHS or RANGES
abbrev pub side_set_by : List Data → Option (List ℕ)
side_set_by [] = None
side_set_by (d ∷ earlier) = first_named (side_set_by earlier) (set_of (sides_in d.fields))

abbrev pub with_sides : Option (List ℕ) → ℕ → Option Entries → List Telling → List Telling
with_sides set line None told = told
with_sides set line (Some e) told = if is_used set e.0 then with_pairs number_of line [] e.1 told else told

-- the right sides or the ranges of the used set, the last one first
abbrev pub sides_by : List Data → List Telling
sides_by [] = []
sides_by (d ∷ earlier) = with_sides (side_set_by earlier) d.line (sides_in d.fields) (sides_by earlier)

-- ---- bounds

-- a bound that a line tells; a number that is missing is 0
pub record BoundTelling : Type 0 where
  pub kind : BoundKind
  pub column : List ℕ
  pub value : ℚ

abbrev pub bound_value : Option (List ℕ) → ℚ
bound_value None = zero_ℚ
bound_value (Some spelling) = value_or_zero (number_of spelling)

abbrev pub bound_set_of : Option (BoundKind × Bounded) → Option (List ℕ)
bound_set_of bound = option_map (λ b. b.1.set) bound

-- the used set of BOUNDS
abbrev pub bound_set_by : List Data → Option (List ℕ)
bound_set_by [] = None
bound_set_by (d ∷ earlier) = first_named (bound_set_by earlier) (bound_set_of (bound_in d.fields))

abbrev pub with_bound : Option (List ℕ) → Option (BoundKind × Bounded) → List BoundTelling → List BoundTelling
with_bound set None told = told
with_bound set (Some b) told = if is_used set b.1.set then record { kind = b.0; column = b.1.column; value = bound_value b.1.number } ∷ told else told

-- the bounds of the used set, the last one first
abbrev pub bounds_by : List Data → List BoundTelling
bounds_by [] = []
bounds_by (d ∷ earlier) = with_bound (bound_set_by earlier) (bound_in d.fields) (bounds_by earlier)

-- ---- the quadratic part

-- twice a number, where it is small enough
abbrev pub twice : Result ℚ NumberFault → Result ℚ NumberFault
twice (Ok q) = fitted (q +ℚ q)
twice (Err fault) = Err fault

-- The entry of Q that a spelling stands for: DMATRIX gives the entries of D with Q = 2D, the others those of Q.
abbrev pub quadratic_number : Section → List ℕ → Result ℚ NumberFault
quadratic_number sections.DMatrix spelling = twice (number_of spelling)
quadratic_number other spelling = number_of spelling

-- the entries of Q as the lines give them, the last one first
abbrev pub pairs_by : List Data → List Telling
pairs_by [] = []
pairs_by (d ∷ earlier) = with_entries (quadratic_number d.section) d.line (entries_in d.fields) (pairs_by earlier)

-- ---- all that is told

pub record Told : Type 0 where
  -- how many lines there are
  pub lines : ℕ
  -- those that were begun, the last one first
  pub sections : List Section
  -- in order, further N rows among them
  pub rows : List (List ℕ × RowKind)
  -- in order, with their marks
  pub columns : List (List ℕ × Bool)
  -- whether a stretch of marked columns is begun
  pub begun : Bool
  pub entries : List Telling
  -- the used set of RHS, and its right sides
  pub side_set : Option (List ℕ)
  pub sides : List Telling
  -- the used set of RANGES, and its ranges
  pub range_set : Option (List ℕ)
  pub ranges : List Telling
  -- the used set of BOUNDS, and its bounds
  pub bound_set : Option (List ℕ)
  pub bounds : List BoundTelling
  pub pairs : List Telling

abbrev pub told_by_data : ℕ → List Section → List Data → Told
told_by_data count begun ds =
    record {
      lines = count;
      sections = begun;
      rows = rows_by (lines_in is_rows ds);
      columns = columns_by (lines_in is_columns ds);
      begun = begun_by (lines_in is_columns ds);
      entries = entries_by (lines_in is_columns ds);
      side_set = side_set_by (lines_in is_rhs ds);
      sides = sides_by (lines_in is_rhs ds);
      range_set = side_set_by (lines_in is_ranges ds);
      ranges = sides_by (lines_in is_ranges ds);
      bound_set = bound_set_by (lines_in is_bounds ds);
      bounds = bounds_by (lines_in is_bounds ds);
      pairs = pairs_by (lines_in is_quadratic ds);
    }

-- what lines tell, the last line first
abbrev pub told_by : List (List ℕ) → Told
told_by lines = told_by_data (length lines) (sections_by lines) (data_by lines)
