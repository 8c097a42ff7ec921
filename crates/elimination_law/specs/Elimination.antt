-- The elimination of the first columns of a list of rows, over exact numbers without limit. For each of these columns in order:
-- the pivot row is the first row that is not used yet and whose entry there is not 0; where there is none, nothing changes. It is
-- divided by that entry, and is used from then on; and each other row is freed of its entry there.
use Rattle.std.specs.Prelude.{ℕ, zero, suc, List, [], ◌∷◌, map, Option, Some, None, Bool, true, false, not, ◌&&◌, ◌==◌, if◌then◌else◌}
use Rattle.rational.specs.Rational.{ℚ, zero_ℚ, ◌/ℚ◌, neg_ℚ}
use Rattle.rational.specs.Order.{same_fields}
use Rattle.rational.specs.Sums.{entry}
use Rattle.rational.specs.Vectors.{add_each, scale}

-- a row, with the column that has its pivot in it, where the row is used
pub record Line : Type 0 where
  pub pivot : Option ℕ
  pub entries : List ℚ

-- a row that is not used yet
abbrev pub unused : List ℚ → Line
unused row = record { pivot = None; entries = row }

-- the pivot row of column j
abbrev pub used : ℕ → List ℚ → Line
used j row = record { pivot = Some j; entries = row }

abbrev pub is_unused : Option ℕ → Bool
is_unused None = true
is_unused (Some k) = false

abbrev pub is_pivot : ℕ → Option ℕ → Bool
is_pivot j None = false
is_pivot j (Some k) = k == j

-- not used yet, and not 0 at column j
abbrev pub may_pivot : ℕ → Line → Bool
may_pivot j l = is_unused l.pivot && not (same_fields (entry l.entries j) zero_ℚ)

-- the pivot row of column j: the first that may be it
unfoldable pub pivot_row : ℕ → List Line → Option (List ℚ)
pivot_row j [] = None
pivot_row j (l ∷ ls) = if may_pivot j l then Some l.entries else pivot_row j ls

-- the same lines, with p as the pivot row of column j
unfoldable pub with_pivot : ℕ → List ℚ → List Line → List Line
with_pivot j p [] = []
with_pivot j p (l ∷ ls) = if may_pivot j l then used j p ∷ ls else l ∷ with_pivot j p ls

-- each entry divided by q
abbrev pub divided : ℚ → List ℚ → List ℚ
divided q row = map (λ x. x /ℚ q) row

-- a line less that multiple of the pivot row p that frees it of its entry at column j; the line of the pivot row itself stays
unfoldable pub freed : ℕ → List ℚ → Line → Line
freed j p l =
    if is_pivot j l.pivot then l
    else record { pivot = l.pivot; entries = add_each l.entries (scale (neg_ℚ (entry l.entries j)) p) }

-- the lines after column j, given its pivot row
abbrev pub step_by : ℕ → List Line → Option (List ℚ) → List Line
step_by j ls None = ls
step_by j ls (Some row) = let p = divided (entry row j) row in map (freed j p) (with_pivot j p ls)

-- the lines after column j
unfoldable pub step : ℕ → List Line → List Line
step j ls = step_by j ls (pivot_row j ls)

-- the lines after k columns from column j on
unfoldable pub eliminated_from : ℕ → ℕ → List Line → List Line
eliminated_from zero j ls = ls
eliminated_from (suc k) j ls = eliminated_from k (suc j) (step j ls)

-- the lines after the first n columns
abbrev pub eliminated : ℕ → List Line → List Line
eliminated n ls = eliminated_from n 0 ls
