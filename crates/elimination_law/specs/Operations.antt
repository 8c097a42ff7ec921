-- The operations of an elimination, in order. For each column that has a pivot row: each entry of that row that is not 0 is divided
-- by the pivot; and then for each other row whose factor, its entry in this column, is not 0, and for each place where the pivot
-- row is not 0: the factor times the entry p of the pivot row there, and the row's entry less that product.
use Rattle.std.specs.Prelude.{ℕ, zero, suc, List, [], ◌∷◌, ◌++◌, Option, Some, None, ◌||◌, if◌then◌else◌}
use Rattle.rational.specs.Rational.{ℚ, zero_ℚ, ◌*ℚ◌, fits}
use Rattle.rational.specs.Order.{same_fields}
use Rattle.rational.specs.Sums.{entry}
use Rattle.frac_core.specs.declared.fractions.Op.TheVariants.{Sub, Mul, Div}
use Rattle.frac_core.specs.declared.fractions.Refused.{Refused}
use Rattle.frac_core.specs.Calculated.{exact_of}
use Rattle.frac_core.specs.Operations.{operation}
use Rattle.elimination_law.specs.Elimination.{Line, is_pivot, pivot_row, with_pivot, divided, step}

-- the first operation whose result has a part above top
unfoldable pub first_past : ℕ → List Refused → Option Refused
first_past top [] = None
first_past top (r ∷ rs) = if fits top (exact_of r.op r.left r.right) then first_past top rs else Some r

-- the entries of a row divided by q
unfoldable pub division_ops : ℚ → List ℚ → List Refused
division_ops q [] = []
division_ops q (x ∷ row) = if same_fields x zero_ℚ then division_ops q row else operation Div x q ∷ division_ops q row

-- a row less f times the pivot row
unfoldable pub less_ops : ℚ → List ℚ → List ℚ → List Refused
less_ops f [] ps = []
less_ops f (x ∷ xs) [] = []
less_ops f (x ∷ xs) (p ∷ ps) =
    if same_fields p zero_ℚ then less_ops f xs ps
    else operation Mul f p ∷ operation Sub x (f *ℚ p) ∷ less_ops f xs ps

-- a line freed of its entry at column j
unfoldable pub freed_ops : ℕ → List ℚ → Line → List Refused
freed_ops j p l =
    if is_pivot j l.pivot || same_fields (entry l.entries j) zero_ℚ then []
    else less_ops (entry l.entries j) l.entries p

unfoldable pub each_freed_ops : ℕ → List ℚ → List Line → List Refused
each_freed_ops j p [] = []
each_freed_ops j p (l ∷ ls) = freed_ops j p l ++ each_freed_ops j p ls

-- column j, given its pivot row
abbrev pub step_ops_by : ℕ → List Line → Option (List ℚ) → List Refused
step_ops_by j ls None = []
step_ops_by j ls (Some row) =
    let p = divided (entry row j) row in
    division_ops (entry row j) row ++ each_freed_ops j p (with_pivot j p ls)

unfoldable pub step_ops : ℕ → List Line → List Refused
step_ops j ls = step_ops_by j ls (pivot_row j ls)

-- k columns from column j on
unfoldable pub ops_from : ℕ → ℕ → List Line → List Refused
ops_from zero j ls = []
ops_from (suc k) j ls = step_ops j ls ++ ops_from k (suc j) (step j ls)

-- the elimination of the first n columns
abbrev pub elimination_ops : ℕ → List Line → List Refused
elimination_ops n ls = ops_from n 0 ls
