-- What one line more tells, by what the lines before it told.
use Rattle.std.specs.Prelude.{ℕ, ◌+◌, List, [], ◌∷◌, ◌++◌, Option, option_to_list, if◌then◌else◌}
use Rattle.mps_tokens.specs.FieldsOf.{fields_of}
use Rattle.mps_tokens.specs.Cases.{named}
use Rattle.mps_tokens.specs.Words.{section_names}
use Rattle.mps_tokens.specs.Numbers.{number_of}
use Rattle.mps_tokens.specs.declared.words.Section.{Section}
use Rattle.mps_tokens.specs.declared.words.Section.TheVariants as sections
use Rattle.mps_grammar.specs.Lines.{field, is_passed, is_indented}
use Rattle.mps_grammar.specs.Fields.{is_marker, begins_stretch, entries_in, column_entries_in, sides_in, bound_in}
use Rattle.mps_grammar.specs.Told.{Told, row_in, with_column, with_entries, first_named, set_of, with_sides, bound_set_of, with_bound, quadratic_number}

-- with a data line of a section
abbrev pub told_more : Told → Section → List (List ℕ) → Told
told_more told sections.Name fields = told
told_more told sections.Rows fields = record told { rows = told.rows ++ option_to_list (row_in fields) }
told_more told sections.Columns fields =
    record told {
      columns = with_column told.begun told.columns (column_entries_in fields);
      begun = if is_marker fields then begins_stretch (field fields 2) else told.begun;
      entries = with_entries number_of (told.lines + 1) (column_entries_in fields) told.entries;
    }
told_more told sections.Rhs fields =
    record told {
      side_set = first_named told.side_set (set_of (sides_in fields));
      sides = with_sides told.side_set (told.lines + 1) (sides_in fields) told.sides;
    }
told_more told sections.Ranges fields =
    record told {
      range_set = first_named told.range_set (set_of (sides_in fields));
      ranges = with_sides told.range_set (told.lines + 1) (sides_in fields) told.ranges;
    }
told_more told sections.Bounds fields =
    record told {
      bound_set = first_named told.bound_set (bound_set_of (bound_in fields));
      bounds = with_bound told.bound_set (bound_in fields) told.bounds;
    }
told_more told sections.QuadObj fields = record told { pairs = with_entries (quadratic_number sections.QuadObj) (told.lines + 1) (entries_in fields) told.pairs }
told_more told sections.QMatrix fields = record told { pairs = with_entries (quadratic_number sections.QMatrix) (told.lines + 1) (entries_in fields) told.pairs }
told_more told sections.DMatrix fields = record told { pairs = with_entries (quadratic_number sections.DMatrix) (told.lines + 1) (entries_in fields) told.pairs }
told_more told sections.EndData fields = told
told_more told sections.ObjSense fields = told

-- with a data line that stands in the last of these sections
abbrev pub told_within : Told → List Section → List (List ℕ) → Told
told_within told [] fields = told
told_within told (section ∷ before) fields = told_more told section fields

-- with the section of a header
abbrev pub told_header : Told → Option Section → Told
told_header told section = record told { sections = option_to_list section ++ told.sections }

-- with a header or a data line
abbrev pub told_content : Told → List ℕ → Told
told_content told line = if is_indented line then told_within told told.sections (fields_of line) else told_header told (named section_names (field (fields_of line) 0))

-- with any line, but not counting it
abbrev pub told_shown : Told → List ℕ → Told
told_shown told line = if is_passed line then told else told_content told line

-- a line is counted
abbrev pub counted : Told → Told
counted told = record told { lines = told.lines + 1 }

abbrev pub told_after : Told → List ℕ → Told
told_after told line = counted (told_shown told line)
