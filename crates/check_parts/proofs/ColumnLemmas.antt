-- A column of a matrix, row by row.
use Rattle.std.specs.Prelude.{◌≡◌, ℕ, zero, suc, ◌<◌, ◌+◌, List, [], ◌∷◌, length, drop}
use Rattle.std.proofs.Common.{refl, arith, add-one}
use Rattle.rational.specs.Rational.{ℚ}
use Rattle.rational.specs.Sums.{entry}
use Rattle.rational.specs.Vectors.{row_at, column}

-- the column from a row on
pub column_step : (rows : List (List ℚ)) (i j : ℕ) → i < length rows → column j (drop i rows) ≡ entry (row_at rows i) j ∷ column j (drop (i + 1) rows)
column_step rows i j h = rw add-one (stepped rows i j h)
  where
    stepped : (rows : List (List ℚ)) (i j : ℕ) → i < length rows → column j (drop i rows) ≡ entry (row_at rows i) j ∷ column j (drop (suc i) rows)
    stepped [] i j h = absurd (omega (arith, h))
    stepped (row ∷ rows) zero j h = refl
    stepped (row ∷ rows) (suc i) j h = stepped rows i j (omega (arith, h))
