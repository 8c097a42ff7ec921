-- A quadratic form as a sum of weighted squares.
use Rattle.std.specs.Prelude.{◌≡◌, ℕ, List, [], ◌∷◌}
use Rattle.rational.specs.Rational.{ℚ, zero_ℚ, ◌+ℚ◌, ◌*ℚ◌}
use Rattle.rational.specs.Order.{◌≤ℚ◌, ◌<ℚ◌}
use Rattle.program_law.specs.declared.Square.{Square}
use Rattle.rational.specs.Vectors.{form, row_at}
use Rattle.rational.specs.Sums.{entry}

-- what the squares sum to at the places j and k: weight * coef_j * coef_k
abbrev pub squares_sum : List Square → ℕ → ℕ → ℚ
squares_sum [] j k = zero_ℚ
squares_sum (s ∷ ss) j k = s.weight *ℚ entry s.coef j *ℚ entry s.coef k +ℚ squares_sum ss j k

abbrev pub ArePositive : List Square → Type 0
ArePositive [] = Unit {0}
ArePositive (s ∷ ss) = (zero_ℚ <ℚ s.weight) × ArePositive ss

-- the squares have positive weights and sum to Q
pub record AreSquaresOf (q : List (List ℚ)) (squares : List Square) : Type 0 where
  pub positive : ArePositive squares
  pub sum : (j k : ℕ) → entry (row_at q j) k ≡ squares_sum squares j k

-- Q is symmetric, and no vector has a negative form
pub record IsSemidefinite (q : List (List ℚ)) : Type 0 where
  pub symmetric : (j k : ℕ) → entry (row_at q j) k ≡ entry (row_at q k) j
  pub not_negative : (u : List ℚ) → zero_ℚ ≤ℚ form q u u
