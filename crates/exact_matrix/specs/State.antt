-- What the program holds while it eliminates: the rows, and for each row the column that has its pivot in it.
use Rattle.std.specs.Prelude.{◌≡◌, ◌≢◌, ◌<◌, ℕ, pos, List, [], ◌∷◌, map, length, slice_set, Option, Some, None}
use Rattle.rational.specs.Rational.{ℚ}
use Rattle.rational.specs.Sums.{entry}
use Rattle.exact_matrix.specs.Grid.{Grid, row_at}
use Rattle.elimination_law.specs.Elimination.{Line, used, pivot_row, with_pivot}

-- rows with their pivots
abbrev pub lines : List (Option ℕ) → List (List ℚ) → List Line
lines [] rows = []
lines (p ∷ ps) [] = []
lines (p ∷ ps) (row ∷ rows) = record { pivot = p; entries = row } ∷ lines ps rows

-- the numbers in the rows of a matrix
abbrev pub values : {F : Type 0} → (F → ℚ) → Grid F → List (List ℚ)
values value m = map (map value) m.rows

-- the lines that the program holds
abbrev pub state : {F : Type 0} → (F → ℚ) → List (Option ℕ) → Grid F → List Line
state value ps m = lines ps (values value m)

-- the row at i is the pivot row of column j
pub record IsPivotAt {F : Type 0} (value : F → ℚ) (j : ℕ) (ps : List (Option ℕ)) (m : Grid F) (i : ℕ) : Type 0 where
  pub within : i < length m.rows
  pub row : pivot_row j (state value ps m) ≡ Some (map value (row_at m i))
  pub placed : (p : List ℚ) → with_pivot j p (state value ps m) ≡ slice_set (state value ps m) i (used j p)
  pub nonzero : (entry (map value (row_at m i)) j).num ≢ pos 0

-- where the pivot row of column j is, if it has one
abbrev pub IsPivotPlace : {F : Type 0} → (F → ℚ) → ℕ → List (Option ℕ) → Grid F → Option ℕ → Type 0
IsPivotPlace value j ps m None = pivot_row j (state value ps m) ≡ None
IsPivotPlace value j ps m (Some i) = IsPivotAt value j ps m i

-- as many rows and columns as before
pub record IsSameShape {F : Type 0} (m n : Grid F) : Type 0 where
  pub columns : n.columns ≡ m.columns
  pub rows : length n.rows ≡ length m.rows
