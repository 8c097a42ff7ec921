-- An exchange: a column comes into the basis in the place of another one. And the rule that says in which place.
use Rattle.std.specs.Prelude.{◌≢◌, ℕ, ◌<◌, List, [], ◌∷◌, slice_set}
use Rattle.rational.specs.Rational.{ℚ, zero_ℚ, one_ℚ, neg_ℚ, reciprocal}
use Rattle.rational.specs.Order.{◌<ℚ◌}
use Rattle.rational.specs.Sums.{entry}
use Rattle.rational.specs.Vectors.{add_each, scale, unit_vector, rows_dot, row_at}
use Rattle.linear_basis_law.specs.Problem.{Problem, height, column_of}
use Rattle.linear_basis_law.specs.Lexicographic.{IsLexBelow}
use Rattle.linear_basis_law.specs.Basis.{Tableau, tableau_rows}

-- column j over the basic columns: the multiples of them that sum to it
abbrev pub coordinates : Problem → Tableau → ℕ → List ℚ
coordinates p b j = rows_dot b.inverse (column_of p j)

-- the row at l of a list of rows, divided by the entry at l of t
abbrev pub quotient_row : List ℚ → List (List ℚ) → ℕ → List ℚ
quotient_row t rows l = scale (reciprocal (entry t l)) (row_at rows l)

-- how often the divided row is added to each row: 1 less the entry of t at l, and at the other places the entry of t negated. So the
-- row at l becomes the divided row, and from each other row the divided row is taken off as often as t says.
abbrev pub shift : ℕ → List ℚ → ℕ → List ℚ
shift m t l = add_each (unit_vector m l) (scale (neg_ℚ one_ℚ) t)

-- a multiple of u added to each row
abbrev pub add_multiples : List ℚ → List ℚ → List (List ℚ) → List (List ℚ)
add_multiples [] u rows = []
add_multiples (d ∷ ds) u [] = []
add_multiples (d ∷ ds) u (row ∷ rows) = add_each row (scale d u) ∷ add_multiples ds u rows

-- rows pivoted at l, where t is above or below 0 there
abbrev pub pivoted : ℕ → List ℚ → List (List ℚ) → ℕ → List (List ℚ)
pivoted m t rows l = add_multiples (shift m t l) (quotient_row t rows l) rows

-- the basis with column j in the place l
abbrev pub exchanged : Problem → Tableau → ℕ → ℕ → Tableau
exchanged p b j l = record { columns = slice_set b.columns l j; inverse = pivoted (height p) (coordinates p b j) b.inverse l }

-- the lexicographic ratio rule: for column j the place l leaves, where column j has a coordinate above 0, and among the rows of
-- [x | N] with such a coordinate, each divided by it, the one at l is the least
pub record IsLeaving (p : Problem) (b : Tableau) (j l : ℕ) : Type 0 where
  pub place : l < height p
  pub positive : zero_ℚ <ℚ entry (coordinates p b j) l
  pub least : (k : ℕ) → k < height p → k ≢ l → zero_ℚ <ℚ entry (coordinates p b j) k →
      IsLexBelow (quotient_row (coordinates p b j) (tableau_rows p b) l) (quotient_row (coordinates p b j) (tableau_rows p b) k)
