-- A symmetric matrix by its upper half: of each row the entries from the diagonal on.
use Rattle.std.specs.Prelude.{◌≡◌, ℕ, zero, suc, List, [], ◌∷◌, drop, length, All}
use Rattle.rational.specs.Rational.{ℚ, zero_ℚ}
use Rattle.rational.specs.Sums.{entry}
use Rattle.rational.specs.Vectors.{row_at}

-- the upper half of the rows from the row at i on
abbrev pub upper_from : ℕ → List (List ℚ) → List (List ℚ)
upper_from i [] = []
upper_from i (row ∷ rows) = drop i row ∷ upper_from (suc i) rows

-- the upper half of a matrix
abbrev pub upper_half : List (List ℚ) → List (List ℚ)
upper_half q = upper_from 0 q

-- the upper half of a matrix of n rows: n entries in the first row, and one less in each row after it
abbrev pub IsHalf : ℕ → List (List ℚ) → Type 0
IsHalf zero [] = Unit {0}
IsHalf zero (row ∷ rows) = ⊥
IsHalf (suc n) [] = ⊥
IsHalf (suc n) (row ∷ rows) = (length row ≡ suc n) × IsHalf n rows

-- the entry at the places j and k of the matrix with this upper half, which is that at k and j
abbrev pub half_at : List (List ℚ) → ℕ → ℕ → ℚ
half_at [] j k = zero_ℚ
half_at (row ∷ rows) zero k = entry row k
half_at (row ∷ rows) (suc j) zero = entry row (suc j)
half_at (row ∷ rows) (suc j) (suc k) = half_at rows j k

-- a matrix of as many columns as rows that is its own transpose
pub record IsSymmetric (q : List (List ℚ)) : Type 0 where
  pub square : All (λ row. length row ≡ length q) q
  pub same : (j k : ℕ) → entry (row_at q j) k ≡ entry (row_at q k) j
