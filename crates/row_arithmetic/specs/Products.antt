-- Sums of products of whole numbers.
use Rattle.std.specs.Prelude.{ℕ, suc, ◌<◌, ◌+◌, ℤ, pos, ◌+ℤ◌, ◌*ℤ◌, List, [], ◌∷◌, length, slice_index_or}
use Rattle.row_arithmetic.specs.Rows.{number}

-- each entry stands at an equation of a row with so many numbers, the value among them
abbrev pub IsWithinRow : ℕ → List (ℕ × ℤ) → Type 0
IsWithinRow width entries = (k : ℕ) → k < length entries → (slice_index_or entries k (0, pos 0)).0 + 1 < width

-- the product of the numbers over the equations, which come after the value, and a column given by its entries
abbrev pub product : List ℤ → List (ℕ × ℤ) → ℤ
product numbers [] = pos 0
product numbers (e ∷ entries) = number numbers (suc e.0) *ℤ e.1 +ℤ product numbers entries

-- the sum of the products of two lists
abbrev pub sum_products : List ℤ → List ℤ → ℤ
sum_products [] ys = pos 0
sum_products (x ∷ xs) [] = pos 0
sum_products (x ∷ xs) (y ∷ ys) = x *ℤ y +ℤ sum_products xs ys
