-- A program while its numbers are being set.
use Rattle.std.specs.Prelude.{ℕ, zero, suc, ◌&&◌, List, [], ◌∷◌, map, length, Option, Some, None, if◌then◌else◌}
use Rattle.std.specs.Str.{bytes_eq}
use Rattle.rational.specs.Rational.{ℚ, zero_ℚ}
use Rattle.program_law.specs.declared.Row.{Row}
use Rattle.program_law.specs.declared.Column.{Column}
use Rattle.program_law.specs.Program.{Program}
use Rattle.program_law.specs.Changes.{zeros, with_entry, with_cost}
use Rattle.named_things.specs.Named.{names_of}
use Rattle.mps_grammar.specs.Told.{Told, Telling, program_rows}
use Rattle.mps_grammar.specs.Programs.{value_told, objective_of, program_of}
use Rattle.mps_tables.specs.PairTable.{square_of}

-- the numbers of a row, column by column
abbrev pub numbers_in : List (List ℕ) → List Telling → List ℕ → List ℚ
numbers_in columns told row = map (λ column. value_told told column row) columns

-- the number of two names that was told last, in either order
abbrev pub last_value : List Telling → List ℕ → List ℕ → ℚ
last_value [] one other = zero_ℚ
last_value (t ∷ told) one other =
    if bytes_eq one t.row && bytes_eq other t.column then t.value else (if bytes_eq one t.column && bytes_eq other t.row then t.value else last_value told one other)

-- the program with these entries and pairs alone
abbrev pub assembled : Told → List Telling → List Telling → Program
assembled told entries pairs =
    record (program_of told) {
      entries = map (λ r. numbers_in (names_of told.columns) entries r.0) (program_rows told.rows);
      costs = numbers_in (names_of told.columns) entries (objective_of told);
      pairs = square_of (names_of told.columns) (last_value pairs);
    }

-- a cost or an entry, by the place of its row among the objective and the rows
abbrev pub with_number : Program → ℕ → ℕ → ℚ → Program
with_number p zero j value = with_cost p j value
with_number p (suc i) j value = with_entry p i j value

-- the same, where the row is one of these
abbrev pub with_placed : Program → Option ℕ → ℕ → ℚ → Program
with_placed p None j value = p
with_placed p (Some place) j value = with_number p place j value

-- rows and columns without numbers
abbrev pub blank : List ℕ → List (List ℕ × Row) → List (List ℕ × Column) → Program
blank objective rows columns =
    record {
      objective = objective;
      rows = rows;
      columns = columns;
      entries = map (λ r. zeros (length columns)) rows;
      costs = zeros (length columns);
      constant = zero_ℚ;
      pairs = map (λ c. zeros (length columns)) columns;
    }
