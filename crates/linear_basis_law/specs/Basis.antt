-- A basis of a problem: one column for each equation, with the inverse of the matrix of these columns; its point, its multipliers and
-- what they say.
use Rattle.std.specs.Prelude.{◌≡◌, ℕ, ◌<◌, ◌≤◌, List, ◌∷◌, map, length, All, slice_index_or, Contains, ◌↔◌}
use Rattle.std.specs.List.{range_with_len}
use Rattle.rational.specs.Rational.{ℚ, zero_ℚ, ◌-ℚ◌, neg_ℚ}
use Rattle.rational.specs.Order.{◌<ℚ◌}
use Rattle.rational.specs.Sums.{entry}
use Rattle.rational.specs.Vectors.{dot, unit_vector, rows_dot, combine, row_at, put_at, HasColumns}
use Rattle.elimination_law.specs.Answers.{right_beside, unit_matrix}
use Rattle.linear_basis_law.specs.Problem.{Problem, height, width, column_of, cost_of}
use Rattle.linear_basis_law.specs.Lexicographic.{IsLexPositive}

-- N is the inverse, from both sides, of the matrix whose m columns are the lists of B: row k of N times column l is 1 where k is l and
-- else 0, and each vector v is the sum of its products with the rows of N times the columns
pub record IsInverseOf (m : ℕ) (B N : List (List ℚ)) : Type 0 where
  pub columns : length B ≡ m
  pub heights : HasColumns m B
  pub rows : length N ≡ m
  pub widths : HasColumns m N
  pub left : (l : ℕ) → l < m → rows_dot N (row_at B l) ≡ unit_vector m l
  pub spans : (v : List ℚ) → length v ≡ m → combine m (rows_dot N v) B ≡ v

-- which columns are in the basis, and the rows of the inverse
pub record Tableau : Type 0 where
  pub columns : List ℕ
  pub inverse : List (List ℚ)

-- the columns themselves, and what they cost
abbrev pub basic_columns : Problem → Tableau → List (List ℚ)
basic_columns p b = map (column_of p) b.columns

abbrev pub basic_costs : Problem → Tableau → List ℚ
basic_costs p b = map (cost_of p) b.columns

pub record IsBasis (p : Problem) (b : Tableau) : Type 0 where
  pub within : All (λ j. j < width p) b.columns
  pub inverse : IsInverseOf (height p) (basic_columns p b) b.inverse

-- the values of the basic columns: those with which they sum to r
abbrev pub point : Problem → Tableau → List ℚ
point p b = rows_dot b.inverse p.right

-- the multipliers of the equations: those under which each basic column gives its cost
abbrev pub multipliers : Problem → Tableau → List ℚ
multipliers p b = combine (height p) (basic_costs p b) b.inverse

-- what column j costs, less what the multipliers give of it
abbrev pub price : Problem → Tableau → ℕ → ℚ
price p b j = cost_of p j -ℚ dot (multipliers p b) (column_of p j)

-- what the multipliers give of r, and then the multipliers: the list that falls from step to step
abbrev pub level : Problem → Tableau → List ℚ
level p b = dot (multipliers p b) p.right ∷ multipliers p b

-- the rows of [x | N]: the value of each basic column, and its row of the inverse
abbrev pub tableau_rows : Problem → Tableau → List (List ℚ)
tableau_rows p b = right_beside (point p b) b.inverse

-- each of these rows is lexicographically positive; so no value is below 0
abbrev pub IsStanding : Problem → Tableau → Type 0
IsStanding p b = All IsLexPositive (tableau_rows p b)

-- the unit columns, with the unit matrix
abbrev pub unit_basis : Problem → Tableau
unit_basis p = record { columns = range_with_len p.given (height p); inverse = unit_matrix (height p) }

-- each unit column of the basis has the value 0
abbrev pub IsZeroCost : Problem → Tableau → Type 0
IsZeroCost p b = (k : ℕ) → k < height p → p.given ≤ slice_index_or b.columns k 0 → entry (point p b) k ≡ zero_ℚ

-- a unit column has another value, and no column of M has a price below 0
pub record IsFinal (p : Problem) (b : Tableau) : Type 0 where
  pub costs : ¬ (IsZeroCost p b)
  pub prices : (j : ℕ) → j < p.given → ¬ (price p b j <ℚ zero_ℚ)

-- the point over the columns of M: the values at the basic ones, and 0 elsewhere
abbrev pub solution_of : Problem → Tableau → List ℚ
solution_of p b = put_at p.given b.columns (point p b)

-- the negated multipliers
abbrev pub farkas_of : Problem → Tableau → List ℚ
farkas_of p b = map neg_ℚ (multipliers p b)

-- the same columns, whatever their order
abbrev pub HasSameColumns : Tableau → Tableau → Type 0
HasSameColumns b c = (j : ℕ) → Contains b.columns j ↔ Contains c.columns j
