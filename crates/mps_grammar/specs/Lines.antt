-- What a line is: a comment, blank, a header or a data line. Lists of lines stand with the last line first, so that the lines before a
-- line are the rest of the list, and a line's number is their count plus 1.
use Rattle.std.specs.Prelude.{ℕ, ◌+◌, ◌==◌, ◌&&◌, ◌||◌, not, Bool, List, [], ◌∷◌, ◌++◌, length, Option, None, slice_index, slice_index_or, option_to_list, if◌then◌else◌}
use Rattle.mps_tokens.specs.FieldsOf.{is_blank, fields_of}
use Rattle.mps_tokens.specs.Cases.{named}
use Rattle.mps_tokens.specs.Words.{section_names}
use Rattle.mps_tokens.specs.declared.words.Section.{Section}

-- a field by its place
abbrev pub field : List (List ℕ) → ℕ → List ℕ
field fields k = slice_index_or fields k []

-- a line with * in front; its bytes aren't looked at
abbrev pub is_comment : List ℕ → Bool
is_comment line = slice_index line 0 == 42

-- a comment, or blanks and tabs only
abbrev pub is_passed : List ℕ → Bool
is_passed line = is_comment line || (length (fields_of line) == 0)

-- a blank or a tab in front
abbrev pub is_indented : List ℕ → Bool
is_indented line = is_blank (slice_index line 0)

-- any other line is a header where nothing stands in front of its first field, and else a data line
abbrev pub is_header : List ℕ → Bool
is_header line = not (is_passed line) && not (is_indented line)

abbrev pub is_data : List ℕ → Bool
is_data line = not (is_passed line) && is_indented line

-- the section that a line begins; of a header only the first field is looked at
abbrev pub section_in : List ℕ → Option Section
section_in line = if is_header line then named section_names (field (fields_of line) 0) else None

-- the sections that lines begin, the last one first: it is the one that the next line stands in
abbrev pub sections_by : List (List ℕ) → List Section
sections_by [] = []
sections_by (line ∷ earlier) = option_to_list (section_in line) ++ sections_by earlier

-- a data line: its number, the section that it stands in, and its fields
pub record Data : Type 0 where
  pub line : ℕ
  pub section : Section
  pub fields : List (List ℕ)

-- a data line after these sections were begun
abbrev pub data_after : List Section → ℕ → List (List ℕ) → List Data
data_after [] line fields = []
data_after (s ∷ ss) line fields = record { line = line; section = s; fields = fields } ∷ []

-- the data lines, the last one first
abbrev pub data_by : List (List ℕ) → List Data
data_by [] = []
data_by (line ∷ earlier) = (if is_data line then data_after (sections_by earlier) (length earlier + 1) (fields_of line) else []) ++ data_by earlier
