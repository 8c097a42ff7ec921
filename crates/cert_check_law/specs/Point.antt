-- The tests of a point: each row's sum within its sides (rule 1), then each column within its bounds (rule 2) and whole
-- where it is marked (rule 3). Places count from 1.
use Rattle.std.specs.Prelude.{ℕ, suc, List, [], ◌∷◌, Option, Some, None, Bool, true, ◌&&◌, ◌==◌, Result, Ok, if◌then◌else◌}
use Rattle.rational.specs.Rational.{ℚ}
use Rattle.rational.specs.Tests.{is_le}
use Rattle.program_law.specs.declared.Row.{Row}
use Rattle.program_law.specs.Region.{Region}
use Rattle.program_law.specs.Program.{Program, sides, marks}
use Rattle.cert_check_law.specs.declared.Event.{Event}
use Rattle.cert_check_law.specs.Chain.{◌>>=◌, test}
use Rattle.cert_check_law.specs.Dot.{dot_of}

abbrev pub is_above_low : Option ℚ → ℚ → Bool
is_above_low None x = true
is_above_low (Some l) x = is_le l x

abbrev pub is_below_high : Option ℚ → ℚ → Bool
is_below_high None x = true
is_below_high (Some h) x = is_le x h

abbrev pub is_within : Row → ℚ → Bool
is_within s x = is_above_low s.low x && is_below_high s.high x

abbrev pub keeps_mark : Bool → ℚ → Bool
keeps_mark marked x = if marked then x.den == 1 else true

-- one row
unfoldable pub row_within : ℕ → Row → List ℚ → List ℚ → Result (Unit {0}) Event
row_within place s row x = dot_of row x >>= λ t. test (is_within s t) 1 place

-- the rows from a place on
abbrev pub rows_within : ℕ → List Row → List (List ℚ) → List ℚ → Result (Unit {0}) Event
rows_within place [] rows x = Ok tt
rows_within place (s ∷ ss) [] x = Ok tt
rows_within place (s ∷ ss) (row ∷ rows) x = row_within place s row x >>= λ _. rows_within (suc place) ss rows x

-- one column
unfoldable pub column_within : ℕ → Row → Bool → ℚ → Result (Unit {0}) Event
column_within place b marked x = test (is_within b x) 2 place >>= λ _. test (keeps_mark marked x) 3 place

-- the columns from a place on
abbrev pub columns_within : ℕ → Region → List Bool → List ℚ → Result (Unit {0}) Event
columns_within place [] ms xs = Ok tt
columns_within place (b ∷ bs) [] xs = Ok tt
columns_within place (b ∷ bs) (m ∷ ms) [] = Ok tt
columns_within place (b ∷ bs) (m ∷ ms) (x ∷ xs) = column_within place b m x >>= λ _. columns_within (suc place) bs ms xs

-- the point in a region
unfoldable pub point_test : Program → Region → List ℚ → Result (Unit {0}) Event
point_test p region x = rows_within 1 (sides p) p.entries x >>= λ _. columns_within 1 region (marks p) x
