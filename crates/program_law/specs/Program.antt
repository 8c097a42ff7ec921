-- What a program is: minimise ½ x^T Q x + c^T x + c0 where the rows A x and the columns x lie within their sides.
use Rattle.std.specs.Prelude.{◌≡◌, ◌≢◌, ◌⊎◌, ℕ, ◌≤◌, List, [], ◌∷◌, map, length, All, AllPairs, IsTrue, IsSome, Some, Bool, false, slice_index_or}
use Rattle.rational.specs.Rational.{ℚ, ◌-ℚ◌, fits}
use Rattle.rational.specs.Order.{◌≤ℚ◌}
use Rattle.frac_core.specs.Parts.{max_part}
use Rattle.program_law.specs.declared.Row.{Row}
use Rattle.program_law.specs.declared.Column.{Column}
use Rattle.rational.specs.Sums.{entry}
use Rattle.rational.specs.Vectors.{row_at}
use Rattle.program_law.specs.Region.{Region}

-- The objective's name, the named rows and columns, A row by row, c, c0 and Q row by row. A name is a list of bytes.
pub record Program : Type 0 where
  pub objective : List ℕ
  pub rows : List (List ℕ × Row)
  pub columns : List (List ℕ × Column)
  pub entries : List (List ℚ)
  pub costs : List ℚ
  pub constant : ℚ
  pub pairs : List (List ℚ)

-- the rows' sides
abbrev pub sides : Program → List Row
sides p = map (λ r. r.1) p.rows

-- a column's bounds alone
abbrev pub bounds_of : Column → Row
bounds_of c = record { low = c.low; high = c.high }

-- the columns' bounds, the region of the whole program
abbrev pub bounds : Program → Region
bounds p = map (λ c. bounds_of c.1) p.columns

-- which columns are to be whole
abbrev pub marks : Program → List Bool
marks p = map (λ c. c.1.whole) p.columns

-- whether a column is to be whole; no where there is no such column
abbrev pub is_marked : List Bool → ℕ → Bool
is_marked ms j = slice_index_or ms j false

-- ---- the limits

-- how many rows there are at most, and how many columns
abbrev pub most_rows : ℕ
most_rows = 128

abbrev pub most_columns : ℕ
most_columns = 128

-- how many bytes a name has at most
abbrev pub longest_name : ℕ
longest_name = 64

-- ---- the invariant

-- 1 to 64 bytes, each 33 to 126
pub record IsName (name : List ℕ) : Type 0 where
  pub some : 1 ≤ length name
  pub short : length name ≤ longest_name
  pub printable : All (λ byte. (33 ≤ byte) × (byte ≤ 126)) name

-- the bytes of 'MARKER', with the quotes
abbrev pub marker : List ℕ
marker = 39 ∷ 77 ∷ 65 ∷ 82 ∷ 75 ∷ 69 ∷ 82 ∷ 39 ∷ []

-- a side at least; of two sides the low one is at most the high one, and their difference fits
pub record IsRow (s : Row) : Type 0 where
  pub some : IsSome s.low ⊎ IsSome s.high
  pub ordered : (low high : ℚ) → s.low ≡ Some low → s.high ≡ Some high → low ≤ℚ high
  pub difference : (low high : ℚ) → s.low ≡ Some low → s.high ≡ Some high → IsTrue (fits max_part (high -ℚ low))

-- the names of the objective and the rows
abbrev pub row_names : Program → List (List ℕ)
row_names p = p.objective ∷ map (λ r. r.0) p.rows

abbrev pub column_names : Program → List (List ℕ)
column_names p = map (λ c. c.0) p.columns

pub record IsProgram (p : Program) : Type 0 where
  pub few_rows : length p.rows ≤ most_rows
  pub few_columns : length p.columns ≤ most_columns
  pub named_rows : All IsName (row_names p)
  pub named_columns : All IsName (column_names p)
  pub rows_differ : AllPairs (λ a b. a ≢ b) (row_names p)
  pub columns_differ : AllPairs (λ a b. a ≢ b) (column_names p)
  pub no_marker : All (λ name. name ≢ marker) (row_names p)
  pub good_rows : All IsRow (sides p)
  pub height : length p.entries ≡ length p.rows
  pub width : All (λ row. length row ≡ length p.columns) p.entries
  pub costs_width : length p.costs ≡ length p.columns
  pub pairs_height : length p.pairs ≡ length p.columns
  pub pairs_width : All (λ row. length row ≡ length p.columns) p.pairs
  pub symmetric : (j k : ℕ) → entry (row_at p.pairs j) k ≡ entry (row_at p.pairs k) j
