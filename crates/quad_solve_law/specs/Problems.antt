-- The feasible and the ray problem of a form, the price problem at a point of it, and what their solutions and Farkas vectors are read as.
use Rattle.std.specs.Prelude.{ℕ, ◌+◌, List, [], ◌∷◌, ◌++◌, length, map, take, drop}
use Rattle.rational.specs.Rational.{ℚ, zero_ℚ, one_ℚ, neg_ℚ, ◌/ℚ◌}
use Rattle.rational.specs.Sums.{entry}
use Rattle.rational.specs.Vectors.{add_each, zeros, pick, put_at}
use Rattle.linear_basis_law.specs.Problem.{Problem}
use Rattle.equational_law.specs.Form.{Form}
use Rattle.face_descent_law.specs.Small.{slope, support}

-- M z = r, over the form's columns
abbrev pub feasible_problem : Form → Problem
feasible_problem f = record { given = length f.cost; rows = f.matrix; right = f.right }

-- M d = 0, then Q d = 0, then -c · d = 1, over the form's columns
abbrev pub ray_problem : Form → Problem
ray_problem f =
    record {
      given = length f.cost;
      rows = f.matrix ++ (f.quadratic ++ map neg_ℚ f.cost ∷ []);
      right = zeros (length f.matrix) ++ (zeros (length f.quadratic) ++ one_ℚ ∷ []);
    }

-- a row over two columns for each place of a support s, and one for each other place: the row, and then its entries at s negated
abbrev pub doubled : List ℕ → List ℚ → List ℚ
doubled s row = row ++ map neg_ℚ (pick s row)

-- M and below it -g
abbrev pub price_rows : Form → List ℚ → List (List ℚ)
price_rows f g = f.matrix ++ map neg_ℚ g ∷ []

-- M (p - n) = 0 and -g · (p - n) = 1, with a column p for each column of the form and then a column n for each one in the support of z,
-- where g is the gradient at z
abbrev pub price_problem : Form → List ℚ → Problem
price_problem f z =
    record {
      given = length f.cost + length (support z);
      rows = map (doubled (support z)) (price_rows f (slope f z));
      right = zeros (length f.matrix) ++ one_ℚ ∷ [];
    }

-- p - n, where x is p over n places and then n over the places of s
abbrev pub difference : ℕ → List ℕ → List ℚ → List ℚ
difference n s x = add_each (take n x) (map neg_ℚ (put_at n s (drop n x)))

-- the direction of a solution of the price problem at z
abbrev pub direction : Form → List ℚ → List ℚ → List ℚ
direction f z x = difference (length f.cost) (support z) x

-- the last entry of a Farkas vector of the price problem, that of the equation of the gradient
abbrev pub last_number : Form → List ℚ → ℚ
last_number f w = entry w (length f.matrix)

-- the multipliers of a Farkas vector of the price problem: the entries of the equations of M, divided by the last entry
abbrev pub price_multipliers : Form → List ℚ → List ℚ
price_multipliers f w = map (λ y. y /ℚ last_number f w) (take (length f.matrix) w)

-- minimise -x, where x is not below 0 and nothing else is asked
abbrev pub falling_form : Form
falling_form = record { matrix = []; right = []; quadratic = (zero_ℚ ∷ []) ∷ []; cost = neg_ℚ one_ℚ ∷ []; constant = zero_ℚ }

-- minimise ½ x^2 - x, where x is not below 0
abbrev pub parabola : Form
parabola = record { matrix = []; right = []; quadratic = (one_ℚ ∷ []) ∷ []; cost = neg_ℚ one_ℚ ∷ []; constant = zero_ℚ }
