-- Numbers as they are kept: by the places of columns and rows.
use Rattle.std.specs.Prelude.{◌≡◌, ℕ, zero, suc, ◌+◌, ◌*◌, ◌==◌, ◌<◌, ◌&&◌, Bool, true, false, List, length, Option, Some, None, slice_index_or}
use Rattle.std.specs.List.{list_any}
use Rattle.program_law.specs.Program.{most_rows, most_columns}
use Rattle.mps_notes.specs.declared.numbers.Entry.{Entry}
use Rattle.mps_notes.specs.declared.numbers.Target.{Target}
use Rattle.mps_notes.specs.declared.numbers.Target.TheVariants as targets

-- what a row is, by its place among the objective and the rows of the program
abbrev pub target_at : Option ℕ → Target
target_at None = targets.Unused
target_at (Some zero) = targets.Objective
target_at (Some (suc k)) = targets.Row k

abbrev pub is_place : ℕ → Option ℕ → Bool
is_place place None = false
is_place place (Some k) = k == place

-- whether an entry is one of a column and a place
abbrev pub marks_at : ℕ → ℕ → Entry → Bool
marks_at column place e = (e.column == column) && is_place place e.place

abbrev pub is_marked : List Entry → ℕ → ℕ → Bool
is_marked es column place = list_any (marks_at column place) es

-- how many places a column's numbers have: those of the objective and of the rows
abbrev pub most_places : ℕ
most_places = most_rows + 1

-- the marks of a column stand together
abbrev pub has : List Bool → ℕ → ℕ → Bool
has marks column place = slice_index_or marks (most_places * column + place) false

-- a mark for each column and place, which says whether there is an entry
pub record AreMarksOf (es : List Entry) (marks : List Bool) : Type 0 where
  pub room : length marks ≡ most_places * most_columns
  pub told : (column place : ℕ) → column < most_columns → place < most_places → has marks column place ≡ is_marked es column place

-- the place of a row after so many rows of the program, and after an objective or before it
abbrev pub place_after : Bool → ℕ → Bool → Option ℕ
place_after true bound objective = Some (bound + 1)
place_after false bound true = None
place_after false bound false = Some 0
