-- What the answers of an elimination say of a matrix M with n columns.
use Rattle.std.specs.Prelude.{◌≡◌, ℕ, suc, ◌<◌, List, length, map, take, drop, Option, Some, None, false}
use Rattle.rational.specs.Rational.{ℚ, zero_ℚ, one_ℚ}
use Rattle.rational.specs.Sums.{entry}
use Rattle.rational.specs.Vectors.{dot, zeros, rows_dot, combine, HasColumns}
use Rattle.elimination_law.specs.Elimination.{Line, is_pivot, eliminated}
use Rattle.elimination_law.specs.Answers.{Answer, Solution, Refutation, lines_of, solve_rows, row_of_pivot, unit_matrix}

-- a line among the lines ls after the elimination of the columns before j
pub record Shaped (w j : ℕ) (ls : List Line) (l : Line) : Type 0 where
  -- the row has w entries
  pub width : length l.entries ≡ w
  -- its pivot is in an eliminated column, and is 1
  pub below : (k : ℕ) → l.pivot ≡ Some k → k < j
  pub one : (k : ℕ) → l.pivot ≡ Some k → entry l.entries k ≡ one_ℚ
  -- and it alone has a pivot there
  pub own : (k : ℕ) → l.pivot ≡ Some k → row_of_pivot k ls ≡ Some l.entries
  -- a row that is not used is 0 in each eliminated column
  pub cleared : l.pivot ≡ None → (c : ℕ) → c < j → entry l.entries c ≡ zero_ℚ
  -- and in the column of a pivot each other row is 0
  pub other : (c : ℕ) (row : List ℚ) → row_of_pivot c ls ≡ Some row → is_pivot c l.pivot ≡ false → entry l.entries c ≡ zero_ℚ

-- the row of a line of [M | r | I]: its part at M and its entry of r are combined from the rows of M and the entries of r, by its part
-- under the unit matrix
pub record IsCombined (n : ℕ) (M : List (List ℚ)) (r row : List ℚ) : Type 0 where
  pub size : length (drop (suc n) row) ≡ length M
  pub front : take n row ≡ combine n (drop (suc n) row) M
  pub right : entry row n ≡ dot (drop (suc n) row) r

-- z is a solution of M z = r
pub record Solves (n : ℕ) (M : List (List ℚ)) (r z : List ℚ) : Type 0 where
  pub size : length z ≡ n
  pub same : rows_dot M z ≡ r

-- w shows that M z = r has no solution: w^T M is 0, and w · r is v, which is not 0
pub record Refutes (n : ℕ) (M : List (List ℚ)) (r w : List ℚ) (v : ℚ) : Type 0 where
  pub size : length w ≡ length M
  pub nothing : combine n w M ≡ zeros n
  pub number : dot w r ≡ v
  pub nonzero : ¬ (v ≡ zero_ℚ)

-- the answer is right
abbrev pub IsRight : ℕ → List (List ℚ) → List ℚ → Answer → Type 0
IsRight n M r (Solution z) = Solves n M r z
IsRight n M r (Refutation w v) = Refutes n M r w v

-- the elimination of (M, r) found no pivot in column c
abbrev pub IsFree : ℕ → List (List ℚ) → List ℚ → ℕ → Type 0
IsFree n M r c = row_of_pivot c (eliminated n (lines_of (solve_rows M r))) ≡ None

-- the columns of M are dependent: z combines them to 0, and is not 0
pub record Depends (n : ℕ) (M : List (List ℚ)) (z : List ℚ) : Type 0 where
  pub size : length z ≡ n
  pub combined : rows_dot M z ≡ zeros (length M)
  pub nonzero : ¬ (z ≡ zeros n)

-- N is the inverse of M: N M is the unit matrix, and each vector v is M (N v), so the columns of M span all vectors
pub record IsInverse (n : ℕ) (M N : List (List ℚ)) : Type 0 where
  pub rows : length N ≡ n
  pub columns : HasColumns n N
  pub product : map (λ row. combine n row M) N ≡ unit_matrix n
  pub back : (z : List ℚ) → length z ≡ n → rows_dot N (rows_dot M z) ≡ z
  pub spans : (v : List ℚ) → length v ≡ n → rows_dot M (rows_dot N v) ≡ v

-- an inverse, or columns that are dependent
abbrev pub IsInverseOrDepends : ℕ → List (List ℚ) → Option (List (List ℚ)) → Type 0
IsInverseOrDepends n M (Some N) = IsInverse n M N
IsInverseOrDepends n M None = (z : List ℚ) × Depends n M z
