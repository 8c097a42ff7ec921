-- The forms of data lines, by their fields.
use Rattle.std.specs.Prelude.{ℕ, Bool, true, false, List, [], ◌∷◌, Option, Some, None, codes, if◌then◌else◌}
use Rattle.std.specs.Option.{option_map}
use Rattle.std.specs.Str.{bytes_eq}
use Rattle.program_law.specs.Program.{marker}
use Rattle.mps_tokens.specs.Cases.{named}
use Rattle.mps_tokens.specs.Words.{row_kind_names, bound_kind_names}
use Rattle.mps_tokens.specs.declared.words.RowKind.{RowKind}
use Rattle.mps_tokens.specs.declared.words.BoundKind.{BoundKind}
use Rattle.mps_tokens.specs.declared.words.BoundKind.TheVariants as bound_kinds
use Rattle.mps_grammar.specs.Lines.{field}

-- ---- ROWS: kind name

-- the kind of row that the first field names
abbrev pub row_kind_in : List (List ℕ) → Option RowKind
row_kind_in fields = named row_kind_names (field fields 0)

-- the name, behind the kind
abbrev pub row_name_in : List (List ℕ) → Option (List ℕ)
row_name_in (kind ∷ name ∷ []) = Some name
row_name_in fields = None

-- ---- COLUMNS: name 'MARKER' word

-- three fields, of which the second is the marker
abbrev pub is_marker : List (List ℕ) → Bool
is_marker (name ∷ second ∷ word ∷ []) = bytes_eq second marker
is_marker fields = false

-- the words that begin and end a stretch of marked columns
abbrev pub begins_stretch : List ℕ → Bool
begins_stretch word = bytes_eq word (codes "'INTORG'")

abbrev pub ends_stretch : List ℕ → Bool
ends_stretch word = bytes_eq word (codes "'INTEND'")

-- ---- COLUMNS: column row number [row number]; quadratic sections: column column number [column number]

-- a name and the spelling of a number
abbrev pub Pair : Type 0
Pair = List ℕ × List ℕ

-- a column or the name of a set, and one or two pairs
abbrev pub Entries : Type 0
Entries = List ℕ × List Pair

abbrev pub entries_in : List (List ℕ) → Option Entries
entries_in (head ∷ name ∷ number ∷ []) = Some (head, (name, number) ∷ [])
entries_in (head ∷ name ∷ number ∷ other ∷ another ∷ []) = Some (head, (name, number) ∷ (other, another) ∷ [])
entries_in fields = None

-- the entries of a line of COLUMNS that is no marker
abbrev pub column_entries_in : List (List ℕ) → Option Entries
column_entries_in fields = if is_marker fields then None else entries_in fields

-- ---- RHS, RANGES: [set] row number [row number]

-- with an even number of fields the set is missing, and then it is the empty name
abbrev pub sides_in : List (List ℕ) → Option Entries
sides_in (name ∷ number ∷ []) = Some ([], (name, number) ∷ [])
sides_in (set ∷ name ∷ number ∷ []) = Some (set, (name, number) ∷ [])
sides_in (name ∷ number ∷ other ∷ another ∷ []) = Some ([], (name, number) ∷ (other, another) ∷ [])
sides_in (set ∷ name ∷ number ∷ other ∷ another ∷ []) = Some (set, (name, number) ∷ (other, another) ∷ [])
sides_in fields = None

-- ---- BOUNDS: kind [set] column number, and for FR, MI, PL and BV kind column, kind set column or kind set column number

-- the kind of bound that the first field names
abbrev pub bound_kind_in : List (List ℕ) → Option BoundKind
bound_kind_in fields = named bound_kind_names (field fields 0)

-- whether a bound of this kind has a number
abbrev pub has_number : BoundKind → Bool
has_number bound_kinds.Upper = true
has_number bound_kinds.Lower = true
has_number bound_kinds.Fixed = true
has_number bound_kinds.Free = false
has_number bound_kinds.MinusInfinity = false
has_number bound_kinds.PlusInfinity = false
has_number bound_kinds.Binary = false
has_number bound_kinds.LowerInteger = true
has_number bound_kinds.UpperInteger = true

-- what stands behind a bound's kind; a missing set is the empty name
pub record Bounded : Type 0 where
  pub set : List ℕ
  pub column : List ℕ
  pub number : Option (List ℕ)

abbrev pub bounded_in : Bool → List (List ℕ) → Option Bounded
bounded_in true (kind ∷ column ∷ number ∷ []) = Some (record { set = []; column = column; number = Some number })
bounded_in false (kind ∷ column ∷ []) = Some (record { set = []; column = column; number = None })
bounded_in false (kind ∷ set ∷ column ∷ []) = Some (record { set = set; column = column; number = None })
bounded_in needed (kind ∷ set ∷ column ∷ number ∷ []) = Some (record { set = set; column = column; number = Some number })
bounded_in needed fields = None

-- a bound, with its kind
abbrev pub bound_by_kind : Option BoundKind → List (List ℕ) → Option (BoundKind × Bounded)
bound_by_kind None fields = None
bound_by_kind (Some kind) fields = option_map (λ b. (kind, b)) (bounded_in (has_number kind) fields)

abbrev pub bound_in : List (List ℕ) → Option (BoundKind × Bounded)
bound_in fields = bound_by_kind (bound_kind_in fields) fields
