-- The equations that rows and doubly bounded columns give, in the order of the file: the rows, then the columns.
use Rattle.std.specs.Prelude.{ℕ, suc, ◌+◌, ◌-◌, List, [], ◌∷◌, ◌++◌, map, length, Option, Some, None, Bool, if◌then◌else◌}
use Rattle.rational.specs.Rational.{ℚ, one_ℚ, neg_ℚ, ◌-ℚ◌}
use Rattle.rational.specs.Order.{same_fields}
use Rattle.rational.specs.Vectors.{dot, zeros, unit_vector}
use Rattle.rational.specs.Tests.{is_negative}
use Rattle.program_law.specs.declared.Row.{Row}
use Rattle.program_law.specs.Region.{Region}
use Rattle.equational_law.specs.Standing.{spread}

-- An equation before its sign is chosen: its entries on the columns that stand for the file's, how many slacks stand before its
-- own, its entries on its own slacks, and its right side.
pub record Equation : Type 0 where
  pub entries : List ℚ
  pub before : ℕ
  pub own : List ℚ
  pub right : ℚ

-- how many equations and how many slacks the sides of a row give
abbrev pub count_by : Option ℚ → Option ℚ → ℕ × ℕ
count_by (Some l) (Some u) = if same_fields l u then (1, 0) else (2, 2)
count_by (Some l) None = (1, 1)
count_by None (Some u) = (1, 1)
count_by None None = (0, 0)

-- A_i x = side where both are equal; A_i x + s = high; A_i x - s = low; and A_i x + s = high with s + t = high - low.
-- `a` is A_i h, and `row` A_i on the form's columns.
abbrev pub row_equations_by : Option ℚ → Option ℚ → ℕ → List ℚ → ℚ → List Equation
row_equations_by (Some l) (Some u) k row a =
    if same_fields l u then record { entries = row; before = k; own = []; right = l -ℚ a } ∷ []
    else record { entries = row; before = k; own = one_ℚ ∷ []; right = u -ℚ a }
    ∷ record { entries = zeros (length row); before = k; own = one_ℚ ∷ one_ℚ ∷ []; right = u -ℚ l } ∷ []
row_equations_by (Some l) None k row a = record { entries = row; before = k; own = neg_ℚ one_ℚ ∷ []; right = l -ℚ a } ∷ []
row_equations_by None (Some u) k row a = record { entries = row; before = k; own = one_ℚ ∷ []; right = u -ℚ a } ∷ []
row_equations_by None None k row a = []

abbrev pub slacks_at : Row → ℕ
slacks_at s = (count_by s.low s.high).1

-- the rows' equations, with so many slacks before theirs
abbrev pub row_equations : Region → List ℚ → ℕ → List Row → List (List ℚ) → List Equation
row_equations region h k [] rows = []
row_equations region h k (s ∷ ss) [] = []
row_equations region h k (s ∷ ss) (row ∷ rows) =
    row_equations_by s.low s.high k (spread region row) (dot row h) ++ row_equations region h (k + slacks_at s) ss rows

-- z + t = u - l for a column with both bounds
abbrev pub bound_equation_by : Option ℚ → Option ℚ → ℕ → List ℚ → List Equation
bound_equation_by (Some l) (Some u) k unit = record { entries = unit; before = k; own = one_ℚ ∷ []; right = u -ℚ l } ∷ []
bound_equation_by low high k unit = []

abbrev pub bound_slacks_by : Option ℚ → Option ℚ → ℕ
bound_slacks_by (Some l) (Some u) = 1
bound_slacks_by low high = 0

-- the columns' equations, from column j on
abbrev pub bound_equations : Region → ℕ → ℕ → Region → List Equation
bound_equations region k j [] = []
bound_equations region k j (b ∷ bs) =
    bound_equation_by b.low b.high k (spread region (unit_vector (length region) j))
    ++ bound_equations region (k + bound_slacks_by b.low b.high) (suc j) bs

abbrev pub row_slacks : List Row → ℕ
row_slacks [] = 0
row_slacks (s ∷ ss) = slacks_at s + row_slacks ss

abbrev pub bound_slacks : Region → ℕ
bound_slacks [] = 0
bound_slacks (b ∷ bs) = bound_slacks_by b.low b.high + bound_slacks bs

-- ---- as rows of a matrix

-- the entries, on the file's columns and then on all slacks
abbrev pub entries_in : ℕ → Equation → List ℚ
entries_in slacks e = e.entries ++ zeros e.before ++ e.own ++ zeros (slacks - (e.before + length e.own))

-- an equation with a negative right side is negated
abbrev pub is_negated : Equation → Bool
is_negated e = is_negative e.right

abbrev pub matrix_row : ℕ → Equation → List ℚ
matrix_row slacks e = if is_negated e then map neg_ℚ (entries_in slacks e) else entries_in slacks e

abbrev pub right_of : Equation → ℚ
right_of e = if is_negated e then neg_ℚ e.right else e.right
