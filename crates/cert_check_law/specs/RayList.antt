-- The entries of a ray's check: A_i d and its test (rule 11), the test of d_j (rule 12), Q_j d and its test (rule 13), and c d and its
-- test (rule 14).
use Rattle.std.specs.Prelude.{ℕ, suc, List, [], ◌∷◌, ◌++◌}
use Rattle.rational.specs.Rational.{ℚ}
use Rattle.frac_core.specs.Dot.{dot_ops}
use Rattle.rational.specs.Tests.{is_zero, is_negative}
use Rattle.program_law.specs.declared.Row.{Row}
use Rattle.rational.specs.Vectors.{dot}
use Rattle.program_law.specs.Program.{Program, sides, bounds}
use Rattle.cert_check_law.specs.Ray.{keeps_sides}
use Rattle.cert_check_law.specs.Entries.{Entry, operations, Test}

-- the rows from a place on: their sums keep the sides (rule 11)
abbrev pub rows_keep_list : ℕ → List Row → List (List ℚ) → List ℚ → List Entry
rows_keep_list place [] rows d = []
rows_keep_list place (s ∷ ss) [] d = []
rows_keep_list place (s ∷ ss) (row ∷ rows) d =
    (operations (dot_ops row d) ++ Test (keeps_sides s (dot row d)) 11 place ∷ []) ++ rows_keep_list (suc place) ss rows d

-- the columns from a place on: the entries keep the bounds (rule 12)
abbrev pub columns_keep_list : ℕ → List Row → List ℚ → List Entry
columns_keep_list place [] ds = []
columns_keep_list place (b ∷ bs) [] = []
columns_keep_list place (b ∷ bs) (d ∷ ds) = Test (keeps_sides b d) 12 place ∷ columns_keep_list (suc place) bs ds

-- the rows of Q from a place on: their sums are 0 (rule 13)
abbrev pub rows_flat_list : ℕ → List (List ℚ) → List ℚ → List Entry
rows_flat_list place [] d = []
rows_flat_list place (row ∷ rows) d = (operations (dot_ops row d) ++ Test (is_zero (dot row d)) 13 place ∷ []) ++ rows_flat_list (suc place) rows d

-- all these, and c d below 0 (rule 14)
abbrev pub ray_list : Program → List ℚ → List Entry
ray_list p d =
    rows_keep_list 1 (sides p) p.entries d
    ++ (columns_keep_list 1 (bounds p) d ++ (rows_flat_list 1 p.pairs d ++ (operations (dot_ops p.costs d) ++ Test (is_negative (dot p.costs d)) 14 0 ∷ [])))
