-- A matrix as its rows.
use Rattle.std.specs.Prelude.{◌≡◌, ℕ, zero, suc, List, [], ◌∷◌, length, take, drop, slice_set, slice_index_or, All}

-- a matrix: how many columns it has, and its rows
pub record Grid (F : Type 0) : Type 0 where
  pub columns : ℕ
  pub rows : List (List F)

-- rows of `columns` entries each, cut off one after another
abbrev pub rows_of : {F : Type 0} → (columns rows : ℕ) → List F → List (List F)
rows_of columns zero xs = []
rows_of columns (suc rows) xs = take columns xs ∷ rows_of columns rows (drop columns xs)

-- each row has an entry for each column
abbrev pub IsGrid : {F : Type 0} → Grid F → Type 0
IsGrid m = All (λ r. length r ≡ m.columns) m.rows

-- the row at i
abbrev pub row_at : {F : Type 0} → Grid F → ℕ → List F
row_at m i = slice_index_or m.rows i []

-- the same matrix with another row at i
abbrev pub with_row : {F : Type 0} → Grid F → ℕ → List F → Grid F
with_row m i r = record { columns = m.columns; rows = slice_set m.rows i r }
