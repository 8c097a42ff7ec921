-- The tests of a ray d: A_i d keeps the row's sides (rule 11), d_j keeps the column's bounds (rule 12), Q_j d is 0
-- (rule 13), and c d is below 0 (rule 14).
use Rattle.std.specs.Prelude.{ℕ, suc, List, [], ◌∷◌, is_none, Bool, not, ◌&&◌, ◌||◌, Result, Ok}
use Rattle.rational.specs.Rational.{ℚ}
use Rattle.rational.specs.Tests.{is_zero, is_positive, is_negative}
use Rattle.program_law.specs.declared.Row.{Row}
use Rattle.program_law.specs.Program.{Program, sides, bounds}
use Rattle.cert_check_law.specs.declared.Event.{Event}
use Rattle.cert_check_law.specs.Chain.{◌>>=◌, test}
use Rattle.cert_check_law.specs.Dot.{dot_of}

-- not below 0 where there is a low side, not above 0 where there is a high one
abbrev pub keeps_sides : Row → ℚ → Bool
keeps_sides s d = (is_none s.low || not (is_negative d)) && (is_none s.high || not (is_positive d))

-- one row
unfoldable pub row_keeps : ℕ → Row → List ℚ → List ℚ → Result (Unit {0}) Event
row_keeps place s row d = dot_of row d >>= λ t. test (keeps_sides s t) 11 place

-- the rows from a place on
abbrev pub rows_keep : ℕ → List Row → List (List ℚ) → List ℚ → Result (Unit {0}) Event
rows_keep place [] rows d = Ok tt
rows_keep place (s ∷ ss) [] d = Ok tt
rows_keep place (s ∷ ss) (row ∷ rows) d = row_keeps place s row d >>= λ _. rows_keep (suc place) ss rows d

-- the columns from a place on
abbrev pub columns_keep : ℕ → List Row → List ℚ → Result (Unit {0}) Event
columns_keep place [] ds = Ok tt
columns_keep place (b ∷ bs) [] = Ok tt
columns_keep place (b ∷ bs) (d ∷ ds) = test (keeps_sides b d) 12 place >>= λ _. columns_keep (suc place) bs ds

-- one row of Q
unfoldable pub row_flat : ℕ → List ℚ → List ℚ → Result (Unit {0}) Event
row_flat place row d = dot_of row d >>= λ t. test (is_zero t) 13 place

-- the rows of Q from a place on
abbrev pub rows_flat : ℕ → List (List ℚ) → List ℚ → Result (Unit {0}) Event
rows_flat place [] d = Ok tt
rows_flat place (row ∷ rows) d = row_flat place row d >>= λ _. rows_flat (suc place) rows d

unfoldable pub ray_test : Program → List ℚ → Result (Unit {0}) Event
ray_test p d =
    rows_keep 1 (sides p) p.entries d >>= λ _. columns_keep 1 (bounds p) d >>= λ _. rows_flat 1 p.pairs d >>= λ _. dot_of p.costs d >>= λ t. test (is_negative t) 14 0
