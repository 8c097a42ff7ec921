-- What the elimination of a matrix answers: a solution or a refutation, and the inverse.
use Rattle.std.specs.Prelude.{ℕ, zero, suc, List, [], ◌∷◌, ◌++◌, map, drop, length, Option, Some, None, if◌then◌else◌}
use Rattle.rational.specs.Rational.{ℚ}
use Rattle.rational.specs.Sums.{entry}
use Rattle.rational.specs.Vectors.{unit_vector}
use Rattle.elimination_law.specs.Elimination.{Line, unused, is_pivot, pivot_row, eliminated}

-- ---- the rows that are eliminated

-- [M | X], row by row
abbrev pub beside : List (List ℚ) → List (List ℚ) → List (List ℚ)
beside [] X = []
beside (row ∷ M) [] = []
beside (row ∷ M) (x ∷ X) = (row ++ x) ∷ beside M X

-- [r | X], row by row
abbrev pub right_beside : List ℚ → List (List ℚ) → List (List ℚ)
right_beside [] X = []
right_beside (y ∷ r) [] = []
right_beside (y ∷ r) (x ∷ X) = (y ∷ x) ∷ right_beside r X

-- k rows of the unit matrix of size m, from row i on
abbrev pub unit_rows : ℕ → ℕ → ℕ → List (List ℚ)
unit_rows m i zero = []
unit_rows m i (suc k) = unit_vector m i ∷ unit_rows m (suc i) k

abbrev pub unit_matrix : ℕ → List (List ℚ)
unit_matrix m = unit_rows m 0 m

-- the rows of [M | r | I]
abbrev pub solve_rows : List (List ℚ) → List ℚ → List (List ℚ)
solve_rows M r = beside M (right_beside r (unit_matrix (length M)))

-- the rows of [M | I]
abbrev pub invert_rows : List (List ℚ) → List (List ℚ)
invert_rows M = beside M (unit_matrix (length M))

-- rows of which none is used yet
abbrev pub lines_of : List (List ℚ) → List Line
lines_of rows = map unused rows

-- ---- the answers, where M has n columns

-- the row that has the pivot of column j
unfoldable pub row_of_pivot : ℕ → List Line → Option (List ℚ)
row_of_pivot j [] = None
row_of_pivot j (l ∷ ls) = if is_pivot j l.pivot then Some l.entries else row_of_pivot j ls

-- the entry at column i, and 0 where there is no row
abbrev pub entry_in : Option (List ℚ) → ℕ → ℚ
entry_in None i = entry [] i
entry_in (Some row) i = entry row i

-- the entries at column n in the rows of the pivots of k columns from column j on, and 0 where a column has none
abbrev pub solution_from : ℕ → ℕ → ℕ → List Line → List ℚ
solution_from zero j n ls = []
solution_from (suc k) j n ls = entry_in (row_of_pivot j ls) n ∷ solution_from k (suc j) n ls

-- a solution z of M z = r; or multipliers of the rows under which M gives 0, and what they give of r, which is not 0
pub data Answer : Type 0 where
  Solution : List ℚ → Answer
  Refutation : List ℚ → ℚ → Answer

-- column n is r, and the columns after it are those of the unit matrix: the first row that is not used and not 0 at r refutes
abbrev pub answer_by : ℕ → List Line → Option (List ℚ) → Answer
answer_by n ls None = Solution (solution_from n 0 n ls)
answer_by n ls (Some row) = Refutation (drop (suc n) row) (entry row n)

abbrev pub answer_of : ℕ → List Line → Answer
answer_of n ls = answer_by n ls (pivot_row n ls)

-- the answer on M z = r
abbrev pub solved : ℕ → List (List ℚ) → List ℚ → Answer
solved n M r = answer_of n (eliminated n (lines_of (solve_rows M r)))

-- the part under the unit matrix of a row, before further rows
abbrev pub part_then : ℕ → Option (List ℚ) → Option (List (List ℚ)) → Option (List (List ℚ))
part_then n (Some row) (Some rows) = Some (drop n row ∷ rows)
part_then n (Some row) None = None
part_then n None rows = None

-- these parts of the rows of the pivots of k columns from column j on, where each column has one
abbrev pub inverse_from : ℕ → ℕ → ℕ → List Line → Option (List (List ℚ))
inverse_from zero j n ls = Some []
inverse_from (suc k) j n ls = part_then n (row_of_pivot j ls) (inverse_from k (suc j) n ls)

-- the inverse of M, and None where a column has no pivot
abbrev pub inverse : ℕ → List (List ℚ) → Option (List (List ℚ))
inverse n M = inverse_from n 0 n (eliminated n (lines_of (invert_rows M)))
