-- What is wrong with a line, by what the lines before it tell. A line's fault is the first whose test holds.
use Rattle.std.specs.Prelude.{ℕ, ◌+◌, ◌==◌, ◌&&◌, ◌||◌, not, nat_le, nat_lt, Bool, true, false, List, [], ◌∷◌, length, Option, Some, None, Result, Ok, Err, is_some, is_none, if◌then◌else◌}
use Rattle.std.specs.List.{list_all, list_any}
use Rattle.std.specs.Str.{bytes_eq}
use Rattle.rational.specs.Rational.{ℚ}
use Rattle.program_law.specs.Places.{place_of}
use Rattle.program_law.specs.Program.{marker, most_rows, most_columns, longest_name}
use Rattle.mps_tokens.specs.Lines.{without_return}
use Rattle.mps_tokens.specs.FieldsOf.{fields_of}
use Rattle.mps_tokens.specs.Cases.{named}
use Rattle.mps_tokens.specs.Words.{section_names}
use Rattle.mps_tokens.specs.Numbers.{number_of}
use Rattle.mps_tokens.specs.declared.fault.NumberFault.{NumberFault}
use Rattle.mps_tokens.specs.declared.fault.NumberFault.TheVariants as number_faults
use Rattle.mps_tokens.specs.declared.words.Section.{Section}
use Rattle.mps_tokens.specs.declared.words.Section.TheVariants as sections
use Rattle.mps_tokens.specs.declared.words.RowKind.{RowKind}
use Rattle.mps_tokens.specs.declared.words.BoundKind.{BoundKind}
use Rattle.mps_grammar.specs.declared.kinds.FaultKind.{FaultKind}
use Rattle.mps_grammar.specs.declared.kinds.FaultKind.TheVariants as kinds
use Rattle.mps_grammar.specs.Lines.{field, is_comment, is_passed, is_indented}
use Rattle.mps_grammar.specs.Fields.{Pair, Entries, Bounded, row_kind_in, row_name_in, is_marker, begins_stretch, ends_stretch, entries_in, sides_in, bound_kind_in, has_number, bounded_in}
use Rattle.named_things.specs.Named.{names_of}
use Rattle.mps_grammar.specs.Told.{Told, Telling, is_rows, is_columns, is_rhs, is_ranges, is_bounds, is_quadratic, binds, program_rows, objective_in, used_names, is_told, is_used, quadratic_number}

-- tests in their order, with the fault that each finds
abbrev pub Tests : Type 0
Tests = List (Bool × FaultKind)

-- the fault of the first test that holds
abbrev pub first_of : Tests → Option FaultKind
first_of [] = None
first_of (t ∷ ts) = if t.0 then Some t.1 else first_of ts

-- ---- names and numbers

abbrev pub is_long : List ℕ → Bool
is_long name = nat_lt longest_name (length name)

-- a name that is too long among a line's column or set and its pairs
abbrev pub has_long : Entries → Bool
has_long e = is_long e.0 || list_any (λ p. is_long p.0) e.1

-- a pair whose name isn't known
abbrev pub has_unknown : List (List ℕ) → List Pair → Bool
has_unknown names pairs = list_any (λ p. is_none (place_of names p.0)) pairs

abbrev pub is_no_number : Result ℚ NumberFault → Bool
is_no_number (Ok q) = false
is_no_number (Err number_faults.NotNumber) = true
is_no_number (Err number_faults.Past) = false

abbrev pub is_past : Result ℚ NumberFault → Bool
is_past (Ok q) = false
is_past (Err number_faults.NotNumber) = false
is_past (Err number_faults.Past) = true

abbrev pub has_no_number : (List ℕ → Result ℚ NumberFault) → List Pair → Bool
has_no_number read pairs = list_any (λ p. is_no_number (read p.1)) pairs

abbrev pub has_past : (List ℕ → Result ℚ NumberFault) → List Pair → Bool
has_past read pairs = list_any (λ p. is_past (read p.1)) pairs

-- Whether a pair that counts was given before, by an earlier line or earlier on this one.
abbrev pub gives_twice : (List ℕ → Bool) → (List ℕ → Bool) → List Pair → Bool
gives_twice counts given [] = false
gives_twice counts given (p ∷ ps) = (counts p.0 && (given p.0 || list_any (λ q. bytes_eq p.0 q.0) ps)) || gives_twice counts given ps

-- rows that count: the objective and the program's rows, and no further N row
abbrev pub counts_row : Told → List ℕ → Bool
counts_row told name = is_some (place_of (used_names told.rows) name)

-- ---- ROWS

abbrev pub named_row_tests : Told → RowKind → Option (List ℕ) → Tests
named_row_tests told kind None = (true, kinds.Fields) ∷ []
named_row_tests told kind (Some name) =
    (bytes_eq name marker, kinds.Marker)
    ∷ (is_long name, kinds.NameLong)
    ∷ (is_some (place_of (names_of told.rows) name), kinds.NameTwice)
    ∷ (binds kind && nat_le most_rows (length (program_rows told.rows)), kinds.TooMany)
    ∷ []

abbrev pub row_tests : Told → Option RowKind → List (List ℕ) → Tests
row_tests told None fields = (true, kinds.RowKind) ∷ []
row_tests told (Some kind) fields = named_row_tests told kind (row_name_in fields)

-- ---- COLUMNS

-- a word that is neither of the two, or that begins a stretch in one, or ends one outside
abbrev pub is_wrong_stretch : Bool → List ℕ → Bool
is_wrong_stretch begun word = if begins_stretch word then begun else (if ends_stretch word then not begun else true)

abbrev pub marker_tests : Told → List (List ℕ) → Tests
marker_tests told fields = (is_wrong_stretch told.begun (field fields 2), kinds.Marker) ∷ (is_long (field fields 0), kinds.NameLong) ∷ []

abbrev pub entry_tests : Told → Option Entries → Tests
entry_tests told None = (true, kinds.Fields) ∷ []
entry_tests told (Some e) =
    (has_long e, kinds.NameLong)
    ∷ (has_unknown (names_of told.rows) e.1, kinds.NameUnknown)
    ∷ (has_no_number number_of e.1, kinds.NumberText)
    ∷ (has_past number_of e.1, kinds.NumberPast)
    ∷ (gives_twice (counts_row told) (is_told told.entries e.0) e.1, kinds.EntryTwice)
    ∷ (is_none (place_of (names_of told.columns) e.0) && nat_le most_columns (length told.columns), kinds.TooMany)
    ∷ []

abbrev pub column_tests : Told → List (List ℕ) → Tests
column_tests told fields = if is_marker fields then marker_tests told fields else entry_tests told (entries_in fields)

-- ---- RHS and RANGES, with the used set and what it told

abbrev pub side_tests : Told → Option (List ℕ) → List Telling → Option Entries → Tests
side_tests told set sides None = (true, kinds.Fields) ∷ []
side_tests told set sides (Some e) =
    (has_long e, kinds.NameLong)
    ∷ (has_unknown (names_of told.rows) e.1, kinds.NameUnknown)
    ∷ (has_no_number number_of e.1, kinds.NumberText)
    ∷ (has_past number_of e.1, kinds.NumberPast)
    ∷ (is_used set e.0 && gives_twice (counts_row told) (is_told sides []) e.1, kinds.EntryTwice)
    ∷ []

-- ---- BOUNDS

-- a test of a number, where there is one
abbrev pub of_number : (Result ℚ NumberFault → Bool) → Option (List ℕ) → Bool
of_number test None = false
of_number test (Some spelling) = test (number_of spelling)

abbrev pub bounded_tests : Told → Option Bounded → Tests
bounded_tests told None = (true, kinds.Fields) ∷ []
bounded_tests told (Some b) =
    (is_long b.set || is_long b.column, kinds.NameLong)
    ∷ (is_none (place_of (names_of told.columns) b.column), kinds.NameUnknown)
    ∷ (of_number is_no_number b.number, kinds.NumberText)
    ∷ (of_number is_past b.number, kinds.NumberPast)
    ∷ []

abbrev pub bound_tests : Told → Option BoundKind → List (List ℕ) → Tests
bound_tests told None fields = (true, kinds.BoundKind) ∷ []
bound_tests told (Some kind) fields = bounded_tests told (bounded_in (has_number kind) fields)

-- ---- QUADOBJ, QMATRIX and DMATRIX

-- whether a pair was given: in QUADOBJ in either order
abbrev pub is_given_pair : Section → List Telling → List ℕ → List ℕ → Bool
is_given_pair sections.QuadObj told one other = is_told told one other || is_told told other one
is_given_pair section told one other = is_told told one other

abbrev pub any_pair : List ℕ → Bool
any_pair name = true

abbrev pub pair_tests : Told → Section → Option Entries → Tests
pair_tests told section None = (true, kinds.Fields) ∷ []
pair_tests told section (Some e) =
    (has_long e, kinds.NameLong)
    ∷ (is_none (place_of (names_of told.columns) e.0) || has_unknown (names_of told.columns) e.1, kinds.NameUnknown)
    ∷ (has_no_number (quadratic_number section) e.1, kinds.NumberText)
    ∷ (has_past (quadratic_number section) e.1, kinds.NumberPast)
    ∷ (gives_twice any_pair (is_given_pair section told.pairs e.0) e.1, kinds.EntryTwice)
    ∷ []

-- ---- any data line

-- a line that stands in a section
abbrev pub data_tests : Told → Section → List (List ℕ) → Tests
data_tests told sections.Name fields = (true, kinds.SectionOrder) ∷ []
data_tests told sections.Rows fields = row_tests told (row_kind_in fields) fields
data_tests told sections.Columns fields = column_tests told fields
data_tests told sections.Rhs fields = side_tests told told.side_set told.sides (sides_in fields)
data_tests told sections.Ranges fields = side_tests told told.range_set told.ranges (sides_in fields)
data_tests told sections.Bounds fields = bound_tests told (bound_kind_in fields) fields
data_tests told sections.QuadObj fields = pair_tests told sections.QuadObj (entries_in fields)
data_tests told sections.QMatrix fields = pair_tests told sections.QMatrix (entries_in fields)
data_tests told sections.DMatrix fields = pair_tests told sections.DMatrix (entries_in fields)
data_tests told sections.EndData fields = (true, kinds.SectionOrder) ∷ []
data_tests told sections.ObjSense fields = (true, kinds.SectionOrder) ∷ []

-- a line stands in the section that was begun last
abbrev pub section_tests : Told → List Section → List (List ℕ) → Tests
section_tests told [] fields = (true, kinds.SectionOrder) ∷ []
section_tests told (section ∷ before) fields = data_tests told section fields

-- ---- headers

abbrev pub is_sense : Section → Bool
is_sense sections.ObjSense = true
is_sense other = false

-- Whether a section may begin after these: NAME before all others; ROWS once; COLUMNS once, after ROWS; and the others after COLUMNS,
-- each once, with one quadratic section at most.
abbrev pub may_begin : List Section → Section → Bool
may_begin begun sections.Name = length begun == 0
may_begin begun sections.Rows = not (list_any is_rows begun)
may_begin begun sections.Columns = list_any is_rows begun && not (list_any is_columns begun)
may_begin begun sections.Rhs = list_any is_columns begun && not (list_any is_rhs begun)
may_begin begun sections.Ranges = list_any is_columns begun && not (list_any is_ranges begun)
may_begin begun sections.Bounds = list_any is_columns begun && not (list_any is_bounds begun)
may_begin begun sections.QuadObj = list_any is_columns begun && not (list_any is_quadratic begun)
may_begin begun sections.QMatrix = list_any is_columns begun && not (list_any is_quadratic begun)
may_begin begun sections.DMatrix = list_any is_columns begun && not (list_any is_quadratic begun)
may_begin begun sections.EndData = list_any is_columns begun
may_begin begun sections.ObjSense = false

abbrev pub header_tests : Told → Option Section → Tests
header_tests told None = (true, kinds.UnknownSection) ∷ []
header_tests told (Some section) =
    (is_sense section, kinds.MaxSense)
    ∷ (not (may_begin told.sections section), kinds.SectionOrder)
    ∷ (is_columns section && is_none (objective_in told.rows), kinds.NoObjective)
    ∷ []

-- ---- any line

-- the last place of a text that a line may have a byte at, counted from 1
abbrev pub reach : ℕ
reach = 1048576

-- whether a line that begins behind so many bytes has one past that place; a carriage return at its end counts
abbrev pub is_beyond : ℕ → List ℕ → Bool
is_beyond at raw = not (length raw == 0) && nat_lt reach (at + length raw)

-- a tab, or 32 to 126
abbrev pub is_plain_byte : ℕ → Bool
is_plain_byte b = (b == 9) || (nat_le 32 b && nat_le b 126)

abbrev pub is_plain : List ℕ → Bool
is_plain line = list_all is_plain_byte line

-- a header or a data line
abbrev pub content_tests : Told → List ℕ → Tests
content_tests told line = if is_indented line then section_tests told told.sections (fields_of line) else header_tests told (named section_names (field (fields_of line) 0))

-- what lies behind the fault of unplain bytes
abbrev pub shown_tests : Told → List ℕ → Tests
shown_tests told line = if is_passed line then [] else content_tests told line

-- all tests of a line, which begins behind so many bytes of the text, with the carriage return that it may end in
abbrev pub line_tests : Told → ℕ → List ℕ → Tests
line_tests told at raw = (is_beyond at raw, kinds.TextLong) ∷ (not (is_comment (without_return raw)) && not (is_plain (without_return raw)), kinds.NotAscii) ∷ shown_tests told (without_return raw)

-- the fault of a line, by what the lines before it tell
abbrev pub line_fault : Told → ℕ → List ℕ → Option FaultKind
line_fault told at raw = first_of (line_tests told at raw)
