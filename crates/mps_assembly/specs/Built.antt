-- A program while its rows and columns are being added.
use Rattle.std.specs.Prelude.{◌≡◌, ℕ, List, [], map, take, Option, None}
use Rattle.rational.specs.Rational.{ℚ}
use Rattle.program_law.specs.Program.{Program}
use Rattle.named_things.specs.Named.{names_of}
use Rattle.mps_grammar.specs.Told.{Told, program_rows}
use Rattle.mps_grammar.specs.Programs.{first_line, is_range_past, row_of, column_of, objective_of}
use Rattle.mps_assembly.specs.Assembled.{blank}
use Rattle.mps_tables.specs.ByRow.{rights_of, ranges_of}

-- with the first rows of a file, so many
abbrev pub rows_built : Told → ℕ → Program
rows_built told count = blank (objective_of told) (map (row_of told) (program_rows (take count told.rows))) []

-- with all rows, and the first columns, so many
abbrev pub columns_built : Told → ℕ → Program
columns_built told count = blank (objective_of told) (map (row_of told) (program_rows told.rows)) (map (column_of told) (take count told.columns))

-- the right sides and the ranges of all rows, where no range makes a side that doesn't fit
pub record AreSides (told : Told) (bs : List ℚ) (rs : List (Option ℚ)) : Type 0 where
  pub rights : bs ≡ rights_of (names_of told.rows) told.sides
  pub ranges : rs ≡ ranges_of (names_of told.rows) told.ranges
  pub held : first_line (is_range_past told) told.ranges ≡ None
