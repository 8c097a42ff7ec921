-- The operations, in order and over exact values, of the value of a point, of the ways back from the form, of a price step, and of the
-- multipliers of a refuted price problem.
use Rattle.std.specs.Prelude.{ℕ, List, [], ◌∷◌, ◌++◌, length, map, take, drop, Option, Some, if◌then◌else◌}
use Rattle.rational.specs.Rational.{ℚ, zero_ℚ, one_ℚ, ◌+ℚ◌, ◌/ℚ◌}
use Rattle.rational.specs.Order.{same_fields}
use Rattle.rational.specs.Vectors.{dot, rows_dot, put_at}
use Rattle.frac_core.specs.declared.fractions.Op.TheVariants.{Add, Sub, Div}
use Rattle.frac_core.specs.declared.fractions.Refused.{Refused}
use Rattle.frac_core.specs.Operations.{operation}
use Rattle.frac_core.specs.Dot.{dot_ops}
use Rattle.program_law.specs.Region.{Region}
use Rattle.program_law.specs.Program.{Program}
use Rattle.equational_law.specs.Form.{Form, point_of}
use Rattle.equational_law.specs.Calculation.{point_ops, ray_ops, two}
use Rattle.face_descent_law.specs.Small.{support}
use Rattle.face_descent_law.specs.Operations.{nearer, nearest_zero, move_ops, capped_ops, face_ops}
use Rattle.quad_solve_law.specs.Problems.{direction, last_number}
use Rattle.quad_solve_law.specs.Steps.{curvature}

-- ---- the value of a point x of the file's columns

-- the product of each row with x, where the entry at the row's place is not 0
abbrev pub product_ops : List (List ℚ) → List ℚ → List ℚ → List Refused
product_ops [] xs x = []
product_ops (row ∷ rows) [] x = []
product_ops (row ∷ rows) (xj ∷ xs) x = if same_fields xj zero_ℚ then product_ops rows xs x else dot_ops row x ++ product_ops rows xs x

-- x^T Q x: the products, and then x times them
abbrev pub square_ops : List (List ℚ) → List ℚ → List Refused
square_ops Q x = product_ops Q x x ++ dot_ops x (rows_dot Q x)

-- half of that, c x, and the two sums
abbrev pub value_ops : Program → List ℚ → List Refused
value_ops p x =
    let h = dot x (rows_dot p.pairs x) in
    let half = h /ℚ two in
    let linear = dot p.costs x in
    square_ops p.pairs x ++ (operation Div h two ∷ (dot_ops p.costs x ++ (operation Add half linear ∷ operation Add (half +ℚ linear) p.constant ∷ [])))

-- ---- back from the form; multipliers go back without operations

-- the point of a solution z
abbrev pub back_ops : Region → List ℚ → List Refused
back_ops region z = point_ops region z

-- the direction of a ray d
abbrev pub ray_back_ops : Region → List ℚ → List Refused
ray_back_ops region d = ray_ops region d

-- a point z of a walk: the face calculation, the way back, and the value there
abbrev pub point_face_ops : ℕ → Program → Region → Form → List ℚ → List Refused
point_face_ops n p region f z = face_ops n f z ++ (back_ops region z ++ value_ops p (point_of region z))

-- ---- price steps

-- the difference at each place
abbrev pub less_ops : List ℚ → List ℚ → List Refused
less_ops [] ys = []
less_ops (x ∷ xs) [] = []
less_ops (x ∷ xs) (y ∷ ys) = operation Sub x y ∷ less_ops xs ys

-- p - n at each place of the form, where n is 0 off the support of z
abbrev pub direction_ops : Form → List ℚ → List ℚ → List Refused
direction_ops f z x = less_ops (take (length f.cost) x) (put_at (length f.cost) (support z) (drop (length f.cost) x))

-- how far a price step goes along d, where h is d^T Q d: to the line's minimum 1 / h, where h is not 0, or the nearest zero
abbrev pub price_length : ℚ → List ℚ → List ℚ → Option ℚ
price_length h z d = if same_fields h zero_ℚ then nearest_zero z d else Some (nearer (one_ℚ /ℚ h) (nearest_zero z d))

-- 1 / h, where h is not 0, and the move
abbrev pub price_move_ops : ℚ → List ℚ → List ℚ → List Refused
price_move_ops h z d = if same_fields h zero_ℚ then move_ops z d else operation Div one_ℚ h ∷ capped_ops (one_ℚ /ℚ h) z d

-- the price step from z along the direction of a solution x of the price problem: the direction, d^T Q d, and the move
abbrev pub price_ops : Form → List ℚ → List ℚ → List Refused
price_ops f z x =
    let d = direction f z x in
    direction_ops f z x ++ (square_ops f.quadratic d ++ price_move_ops (curvature f d) z d)

-- the multipliers of a Farkas vector w of the price problem: a quotient for each equation of M
abbrev pub multiplier_ops : Form → List ℚ → List Refused
multiplier_ops f w = map (λ y. operation Div y (last_number f w)) (take (length f.matrix) w)
