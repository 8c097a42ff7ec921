-- The entries of a point's check: each row's sum and its test (rule 1), then the tests of each column (rules 2 and 3).
use Rattle.std.specs.Prelude.{ℕ, suc, List, [], ◌∷◌, ◌++◌, Bool}
use Rattle.rational.specs.Rational.{ℚ}
use Rattle.frac_core.specs.Dot.{dot_ops}
use Rattle.program_law.specs.declared.Row.{Row}
use Rattle.rational.specs.Vectors.{dot}
use Rattle.program_law.specs.Region.{Region}
use Rattle.program_law.specs.Program.{Program, sides, marks}
use Rattle.cert_check_law.specs.Point.{is_within, keeps_mark}
use Rattle.cert_check_law.specs.Entries.{Entry, operations, Test}

-- one row: its sum lies within its sides (rule 1)
abbrev pub row_within_list : ℕ → Row → List ℚ → List ℚ → List Entry
row_within_list place s row x = operations (dot_ops row x) ++ Test (is_within s (dot row x)) 1 place ∷ []

-- the rows from a place on
abbrev pub rows_within_list : ℕ → List Row → List (List ℚ) → List ℚ → List Entry
rows_within_list place [] rows x = []
rows_within_list place (s ∷ ss) [] x = []
rows_within_list place (s ∷ ss) (row ∷ rows) x = row_within_list place s row x ++ rows_within_list (suc place) ss rows x

-- one column: within its bounds (rule 2), and whole where it is marked (rule 3)
abbrev pub column_within_list : ℕ → Row → Bool → ℚ → List Entry
column_within_list place b marked x = Test (is_within b x) 2 place ∷ Test (keeps_mark marked x) 3 place ∷ []

-- the columns from a place on
abbrev pub columns_within_list : ℕ → Region → List Bool → List ℚ → List Entry
columns_within_list place [] ms xs = []
columns_within_list place (b ∷ bs) [] xs = []
columns_within_list place (b ∷ bs) (m ∷ ms) [] = []
columns_within_list place (b ∷ bs) (m ∷ ms) (x ∷ xs) = column_within_list place b m x ++ columns_within_list (suc place) bs ms xs

-- the point in a region
abbrev pub point_list : Program → Region → List ℚ → List Entry
point_list p region x = rows_within_list 1 (sides p) p.entries x ++ columns_within_list 1 region (marks p) x
