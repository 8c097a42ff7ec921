-- How a file's columns stand in the form, whose columns are all at least 0.
use Rattle.std.specs.Prelude.{ℕ, ◌+◌, List, [], ◌∷◌, ◌++◌, map, drop, Option, Some, None}
use Rattle.rational.specs.Rational.{ℚ, zero_ℚ, neg_ℚ, ◌-ℚ◌}
use Rattle.rational.specs.Sums.{entry}
use Rattle.program_law.specs.declared.Row.{Row}
use Rattle.program_law.specs.Region.{Region}

-- A column with a low bound l is l + z; one with a high bound u alone is u - z; one without bounds is z - z', two columns.
pub data Standing : Type 0 where
  Above : ℚ → Standing
  Below : ℚ → Standing
  Free : Standing

abbrev pub standing_by : Option ℚ → Option ℚ → Standing
standing_by (Some l) high = Above l
standing_by None (Some u) = Below u
standing_by None None = Free

abbrev pub standing : Row → Standing
standing b = standing_by b.low b.high

-- what is added to a column's change
abbrev pub shift_at : Standing → ℚ
shift_at (Above l) = l
shift_at (Below u) = u
shift_at Free = zero_ℚ

-- h, the shift of each column
abbrev pub shift : Region → List ℚ
shift region = map (λ b. shift_at (standing b)) region

-- how many columns of the form stand for a column
abbrev pub parts_at : Standing → ℕ
parts_at (Above l) = 1
parts_at (Below u) = 1
parts_at Free = 2

-- and for all of them
abbrev pub parts : Region → ℕ
parts [] = 0
parts (b ∷ bs) = parts_at (standing b) + parts bs

-- ---- between a form's column and the file's

-- what the first columns of the form make of a column: z, -z, or z - z'
abbrev pub change_at : Standing → List ℚ → ℚ
change_at (Above l) z = entry z 0
change_at (Below u) z = neg_ℚ (entry z 0)
change_at Free z = entry z 0 -ℚ entry z 1

-- T z, the change of each column of the file
abbrev pub change : Region → List ℚ → List ℚ
change [] z = []
change (b ∷ bs) z = change_at (standing b) z ∷ change bs (drop (parts_at (standing b)) z)

-- a column's number as the form's columns have it: v, -v, or v and -v
abbrev pub spread_at : Standing → ℚ → List ℚ
spread_at (Above l) v = v ∷ []
spread_at (Below u) v = neg_ℚ v ∷ []
spread_at Free v = v ∷ neg_ℚ v ∷ []

-- the transpose of T: each column's number on the columns of the form that stand for it
abbrev pub spread : Region → List ℚ → List ℚ
spread [] vs = []
spread (b ∷ bs) vs = spread_at (standing b) (entry vs 0) ++ spread bs (drop 1 vs)

-- the same of rows
abbrev pub spread_rows_at : Standing → List ℚ → List (List ℚ)
spread_rows_at (Above l) row = row ∷ []
spread_rows_at (Below u) row = map neg_ℚ row ∷ []
spread_rows_at Free row = row ∷ map neg_ℚ row ∷ []

abbrev pub spread_rows : Region → List (List ℚ) → List (List ℚ)
spread_rows region [] = []
spread_rows [] (row ∷ rows) = []
spread_rows (b ∷ bs) (row ∷ rows) = spread_rows_at (standing b) row ++ spread_rows bs rows
