-- The operations of the calculation of a basis, in order.
use Rattle.std.specs.Prelude.{ℕ, List, [], ◌∷◌, ◌++◌, map, if◌then◌else◌}
use Rattle.std.specs.List.{range_with_len}
use Rattle.rational.specs.Rational.{ℚ, zero_ℚ}
use Rattle.rational.specs.Order.{rational_cmp}
use Rattle.std.specs.Ordering.{is_lt}
use Rattle.rational.specs.Vectors.{dot, column}
use Rattle.frac_core.specs.declared.fractions.Op.TheVariants.{Sub, Div}
use Rattle.frac_core.specs.declared.fractions.Refused.{Refused}
use Rattle.frac_core.specs.Operations.{operation}
use Rattle.frac_core.specs.Dot.{dot_ops}
use Rattle.elimination_law.specs.Answers.{lines_of, solve_rows}
use Rattle.elimination_law.specs.Operations.{elimination_ops}
use Rattle.linear_basis_law.specs.Problem.{Problem, height, column_of, cost_of}
use Rattle.linear_basis_law.specs.Basis.{Tableau, basic_columns, basic_costs, point, multipliers}
use Rattle.linear_basis_law.specs.Exchange.{coordinates}

-- the operations for each of a list, one after another
abbrev pub ops_of_each : {X : Type 0} → (X → List Refused) → List X → List Refused
ops_of_each f [] = []
ops_of_each f (x ∷ xs) = f x ++ ops_of_each f xs

-- the numbers below n
abbrev pub below : ℕ → List ℕ
below n = range_with_len 0 n

-- the matrix whose columns are the basic ones, by rows
abbrev pub basic_matrix : Problem → Tableau → List (List ℚ)
basic_matrix p b = map (λ i. column i (basic_columns p b)) (below (height p))

-- its elimination with r
abbrev pub inverse_ops : Problem → Tableau → List Refused
inverse_ops p b = elimination_ops (height p) (lines_of (solve_rows (basic_matrix p b) p.right))

-- each row of the inverse with r
abbrev pub point_ops : Problem → Tableau → List Refused
point_ops p b = ops_of_each (λ row. dot_ops row p.right) b.inverse

-- the costs with each column of the inverse
abbrev pub multiplier_ops : Problem → Tableau → List Refused
multiplier_ops p b = ops_of_each (λ i. dot_ops (basic_costs p b) (column i b.inverse)) (below (height p))

-- the price of column j
abbrev pub price_ops : Problem → Tableau → ℕ → List Refused
price_ops p b j =
    dot_ops (multipliers p b) (column_of p j) ++ operation Sub (cost_of p j) (dot (multipliers p b) (column_of p j)) ∷ []

-- each row of the inverse with column j
abbrev pub coordinate_ops : Problem → Tableau → ℕ → List Refused
coordinate_ops p b j = ops_of_each (λ row. dot_ops row (column_of p j)) b.inverse

-- a value and a row of the inverse, divided by the coordinate t, where it is above 0
abbrev pub quotient_ops : ℚ → ℚ → List ℚ → List Refused
quotient_ops t x row = if is_lt (rational_cmp zero_ℚ t) then map (λ a. operation Div a t) (x ∷ row) else []

-- the same for each place
abbrev pub quotients_ops : List ℚ → List ℚ → List (List ℚ) → List Refused
quotients_ops [] xs rows = []
quotients_ops (t ∷ ts) [] rows = []
quotients_ops (t ∷ ts) (x ∷ xs) [] = []
quotients_ops (t ∷ ts) (x ∷ xs) (row ∷ rows) = quotient_ops t x row ++ quotients_ops ts xs rows

-- the inverse, the point and the multipliers; the price of each column of M; the coordinates of each column of M; and for each the
-- quotients
abbrev pub basis_ops : Problem → Tableau → List Refused
basis_ops p b =
    inverse_ops p b ++ point_ops p b ++ multiplier_ops p b ++ ops_of_each (price_ops p b) (below p.given)
    ++ ops_of_each (coordinate_ops p b) (below p.given)
    ++ ops_of_each (λ j. quotients_ops (coordinates p b j) (point p b) b.inverse) (below p.given)
