-- The equational form of a program in a region that isn't crossed: minimise ½ z^T Q z + c z + c0 where M z = r and z is not below 0.
use Rattle.std.specs.Prelude.{ℕ, ◌+◌, List, [], ◌∷◌, ◌++◌, map, drop, replicate, if◌then◌else◌}
use Rattle.rational.specs.Rational.{ℚ, neg_ℚ, ◌+ℚ◌, ◌*ℚ◌}
use Rattle.rational.specs.Sums.{half, entry}
use Rattle.rational.specs.Vectors.{dot, rows_dot, add_each, zeros}
use Rattle.program_law.specs.declared.Row.{Row}
use Rattle.program_law.specs.Region.{Region}
use Rattle.program_law.specs.Program.{Program, sides}
use Rattle.equational_law.specs.Standing.{parts, shift, change, spread, spread_rows}
use Rattle.equational_law.specs.Equations.{Equation, count_by, row_equations, bound_equations, row_slacks, bound_slacks, is_negated, matrix_row, right_of}

pub record Form : Type 0 where
  pub matrix : List (List ℚ)
  pub right : List ℚ
  pub quadratic : List (List ℚ)
  pub cost : List ℚ
  pub constant : ℚ

-- all equations, the rows' first
abbrev pub equations : Program → Region → List Equation
equations p region =
    row_equations region (shift region) 0 (sides p) p.entries ++ bound_equations region (row_slacks (sides p)) 0 region

abbrev pub slacks : Program → Region → ℕ
slacks p region = row_slacks (sides p) + bound_slacks region

-- how many columns the form has: those that stand for the file's, and the slacks
abbrev pub width : Program → Region → ℕ
width p region = parts region + slacks p region

-- a row on the form's columns, with 0 on the slacks
abbrev pub padded : ℕ → List ℚ → List ℚ
padded n row = row ++ zeros n

-- the form with these equations, costs of the file's columns in the change from h, and constant
abbrev pub form_by : Program → Region → List Equation → List ℚ → ℚ → Form
form_by p region es costs constant =
    record {
      matrix = map (matrix_row (slacks p region)) es;
      right = map right_of es;
      quadratic =
          map (padded (slacks p region)) (spread_rows region (map (spread region) p.pairs))
          ++ replicate (slacks p region) (zeros (width p region));
      cost = padded (slacks p region) (spread region costs);
      constant = constant;
    }

-- the costs are c + Q h, and the constant c0 + c h + ½ h Q h
abbrev pub form_of : Program → Region → Form
form_of p region =
    form_by p region (equations p region) (add_each p.costs (rows_dot p.pairs (shift region)))
    (p.constant +ℚ dot p.costs (shift region) +ℚ half *ℚ dot (shift region) (rows_dot p.pairs (shift region)))

-- ---- back to the file's columns and rows

-- the point of a solution z: h + T z
abbrev pub point_of : Region → List ℚ → List ℚ
point_of region z = add_each (shift region) (change region z)

-- the direction of a ray of the form
abbrev pub direction_of : Region → List ℚ → List ℚ
direction_of region d = change region d

-- a multiplier of an equation, with the sign that the equation had
abbrev pub unsigned_by : Equation → ℚ → ℚ
unsigned_by e y = if is_negated e then neg_ℚ y else y

abbrev pub unsigned : List Equation → List ℚ → List ℚ
unsigned [] ys = []
unsigned (e ∷ es) ys = unsigned_by e (entry ys 0) ∷ unsigned es (drop 1 ys)

-- the first multiplier of each row, of those of its equations
abbrev pub firsts : List Row → List ℚ → List ℚ
firsts [] ys = []
firsts (s ∷ ss) ys = entry ys 0 ∷ firsts ss (drop (count_by s.low s.high).0 ys)

-- for each row of the file the multiplier of its first equation
abbrev pub multipliers_of : Program → Region → List ℚ → List ℚ
multipliers_of p region ys = firsts (sides p) (unsigned (equations p region) ys)
