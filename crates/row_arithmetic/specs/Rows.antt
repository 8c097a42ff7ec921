-- Rows of whole numbers, each over a denominator of its own.
use Rattle.std.specs.Prelude.{◌≡◌, ◌≢◌, ℕ, suc, ◌<◌, ℤ, pos, List, [], length, get_or}

-- the numbers of a row, and the denominator under all of them
pub record Row : Type 0 where
  pub numbers : List ℤ
  pub bottom : ℤ

-- the number at k, and 0 past the end
abbrev pub number : List ℤ → ℕ → ℤ
number xs k = get_or xs k (pos 0)

-- the row at k, and an empty one past the end
abbrev pub row_in : List Row → ℕ → Row
row_in rows k = get_or rows k (record { numbers = []; bottom = pos 0 })

-- the value, then 1 in the place of the equation at k and else 0, all over the scale
pub record IsUnitRow (m k : ℕ) (value scale : ℤ) (row : Row) : Type 0 where
  pub size : length row.numbers ≡ suc m
  pub bottom : row.bottom ≡ scale
  pub value_first : number row.numbers 0 ≡ value
  pub one : k < m → number row.numbers (suc k) ≡ pos 1
  pub zero : (i : ℕ) → i < m → i ≢ k → number row.numbers (suc i) ≡ pos 0
