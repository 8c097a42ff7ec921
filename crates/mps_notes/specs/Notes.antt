-- What is kept of the lines, as what they tell.
use Rattle.std.specs.Prelude.{◌≡◌, ℕ, ◌≤◌, Bool, is_some, List, [], ◌∷◌, ◌++◌, length, if◌then◌else◌}
use Rattle.program_law.specs.Places.{place_of}
use Rattle.program_law.specs.Program.{most_columns}
use Rattle.named_things.specs.Named.{names_of}
use Rattle.mps_grammar.specs.Told.{Told, used_names}
use Rattle.mps_notes.specs.declared.notes.Notes.{Notes}
use Rattle.named_things.specs.Names.{Differ}
use Rattle.mps_notes.specs.Names.{AreNames}
use Rattle.mps_notes.specs.Told.{tellings_of, AreEntries, bounds_of, AreBounds, text_in}

-- right sides and ranges stand under the empty name
abbrev pub no_column : List (List ℕ)
no_column = [] ∷ []

abbrev pub told_in : Notes → Told
told_in n =
    record {
      lines = n.lines;
      sections = n.sections.items;
      rows = n.rows;
      columns = n.columns;
      begun = n.begun;
      entries = tellings_of (names_of n.columns) (names_of n.rows) n.entries;
      side_set = text_in n.sides.set;
      sides = tellings_of no_column (names_of n.rows) n.sides.numbers;
      range_set = text_in n.ranges.set;
      ranges = tellings_of no_column (names_of n.rows) n.ranges.numbers;
      bound_set = text_in n.bounds.set;
      bounds = bounds_of (names_of n.columns) n.bounds.items.items;
      pairs = tellings_of (names_of n.columns) (names_of n.columns) n.pairs;
    }

-- names are names that a program may have and differ, and each number stands for a column and a row that are there
pub record IsSound (n : Notes) : Type 0 where
  pub rows_differ : Differ (names_of n.rows)
  pub column_names : AreNames (names_of n.columns)
  pub columns_differ : Differ (names_of n.columns)
  pub few_columns : length n.columns ≤ most_columns
  pub entries : AreEntries (names_of n.columns) (names_of n.rows) (used_names n.rows) n.entries
  pub sides : AreEntries no_column (names_of n.rows) (used_names n.rows) n.sides.numbers
  pub ranges : AreEntries no_column (names_of n.rows) (used_names n.rows) n.ranges.numbers
  pub bounds : AreBounds (names_of n.columns) n.bounds.items.items
  pub pairs : AreEntries (names_of n.columns) (names_of n.columns) (names_of n.columns) n.pairs

-- what is kept is sound, and tells this
pub record Holds (told : Told) (n : Notes) : Type 0 where
  pub told_is : told_in n ≡ told
  pub sound : IsSound n

-- the columns with one of this name, which is put last where it is new
abbrev pub with_name : List (List ℕ × Bool) → List ℕ → Bool → List (List ℕ × Bool)
with_name columns name marked = if is_some (place_of (names_of columns) name) then columns else columns ++ (name, marked) ∷ []
