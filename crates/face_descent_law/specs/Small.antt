-- The small system of a point z of a form: where a step within z's support must go. With S the support and g the gradient at z, its
-- unknowns are e, one for each place of S, and then one multiplier for each equation; its rows are `Q_i e + (multipliers M)_i = -g_i`
-- for each i in S, and then `M e = 0`.
use Rattle.std.specs.Prelude.{◌≡◌, ◌≢◌, ℕ, suc, ◌+◌, List, [], ◌∷◌, ◌++◌, length, map, take, if◌then◌else◌}
use Rattle.rational.specs.Rational.{ℚ, zero_ℚ, neg_ℚ}
use Rattle.rational.specs.Order.{same_fields}
use Rattle.rational.specs.Sums.{entry}
use Rattle.rational.specs.Vectors.{zeros, combine, column, row_at, gradient, quadratic, pick}
use Rattle.elimination_law.specs.Answers.{Answer, Solution, solved}
use Rattle.equational_law.specs.Form.{Form}

-- what the form asks at z: ½ z^T Q z + c · z + c0
abbrev pub height : Form → List ℚ → ℚ
height f z = quadratic f.quadratic f.cost f.constant z

-- its gradient at z: Q z + c
abbrev pub slope : Form → List ℚ → List ℚ
slope f z = gradient f.quadratic f.cost z

-- the places of the entries that are not 0, in order, where the first entry stands at place j
abbrev pub support_from : ℕ → List ℚ → List ℕ
support_from j [] = []
support_from j (x ∷ z) = if same_fields x zero_ℚ then support_from (suc j) z else j ∷ support_from (suc j) z

-- the support of z
abbrev pub support : List ℚ → List ℕ
support z = support_from 0 z

-- the row of a place i of S: Q_i on S, and then column i of M
abbrev pub place_row : Form → List ℕ → ℕ → List ℚ
place_row f S i = pick S (row_at f.quadratic i) ++ column i f.matrix

-- the row of an equation: its entries on S, and then zeros
abbrev pub equation_row : ℕ → List ℕ → List ℚ → List ℚ
equation_row m S row = pick S row ++ zeros m

-- the rows, the places' first
abbrev pub small_rows : Form → List ℕ → List (List ℚ)
small_rows f S = map (place_row f S) S ++ map (equation_row (length f.matrix) S) f.matrix

-- the right sides: -g at the places, and 0 at the equations
abbrev pub small_right : Form → List ℕ → List ℚ → List ℚ
small_right f S g = map (λ i. neg_ℚ (entry g i)) S ++ zeros (length f.matrix)

-- how many unknowns there are
abbrev pub small_width : Form → List ℕ → ℕ
small_width f S = length S + length f.matrix

-- what the elimination of the small system answers
abbrev pub small_answer : Form → List ℚ → Answer
small_answer f z = solved (small_width f (support z)) (small_rows f (support z)) (small_right f (support z) (slope f z))

-- z is stationary on its support: the solution that the elimination finds has e = 0
pub record IsStationary (f : Form) (z : List ℚ) : Type 0 where
  pub unknowns : List ℚ
  pub solved : small_answer f z ≡ Solution unknowns
  pub still : take (length (support z)) unknowns ≡ zeros (length (support z))

-- multipliers of the equations that give the gradient at each place of z's support, over n columns
pub record HasMultipliers (n : ℕ) (f : Form) (z : List ℚ) : Type 0 where
  pub multipliers : List ℚ
  pub size : length multipliers ≡ length f.matrix
  pub same : (j : ℕ) → entry z j ≢ zero_ℚ → entry (combine n multipliers f.matrix) j ≡ entry (slope f z) j
