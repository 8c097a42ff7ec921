-- The form of a worked program, by computing.
use Rattle.std.specs.Prelude.{◌≡◌, List, [], ◌∷◌, length}
use Rattle.std.proofs.Common.{refl}
use Rattle.rational.specs.Divisors.{gcd_of}
use Rattle.rational.specs.Rational.{ℚ, whole, ratio, neg_ℚ, same_ℚ, ◌+ℚ◌, ◌*ℚ◌}
use Rattle.rational.specs.Sums.{half}
use Rattle.rational.specs.Vectors.{rows_dot, quadratic}
use Rattle.program_law.specs.Program.{bounds}
use Rattle.program_law.proofs.Worked.{n, first, ranged}
use Rattle.equational_law.specs.Form.{form_of, width, point_of}

-- x and y, the slacks of the two rows, and that of y's bounds
first_columns : width first (bounds first) ≡ 5
first_columns = refl

first_equations : length (form_of first (bounds first)).matrix ≡ 3
first_equations = refl

-- 3 ≤ x + y ≤ 5 with one bound each: x, y, and two slacks in two equations
ranged_columns : width ranged (bounds ranged) ≡ 4
unfolding ratio gcd_of whole neg_ℚ
ranged_columns = refl

ranged_equations : length (form_of ranged (bounds ranged)).matrix ≡ 2
unfolding ratio gcd_of whole neg_ℚ ◌+ℚ◌ ◌*ℚ◌
ranged_equations = refl

-- the first program at (2, 3): 2 + 3 + 2 = 7, -2 + 6 + 0 = 4, 3 + 1 = 4
abbrev solution : List ℚ
solution = n 2 ∷ n 3 ∷ n 2 ∷ n 0 ∷ n 1 ∷ []

three : (a b c x y z : ℚ) → a ≡ x → b ≡ y → c ≡ z → a ∷ b ∷ c ∷ [] ≡ x ∷ y ∷ z ∷ []
three a b c x y z e f g = cc

two : (a b x y : ℚ) → a ≡ x → b ≡ y → a ∷ b ∷ [] ≡ x ∷ y ∷ []
two a b x y e f = cc

first_solved : rows_dot (form_of first (bounds first)).matrix solution ≡ n 7 ∷ n 4 ∷ n 4 ∷ []
unfolding ◌+ℚ◌ ◌*ℚ◌ neg_ℚ ratio gcd_of whole
first_solved = three _ _ _ _ _ _ (same_ℚ _ _ refl refl) (same_ℚ _ _ refl refl) (same_ℚ _ _ refl refl)

first_right : (form_of first (bounds first)).right ≡ n 7 ∷ n 4 ∷ n 4 ∷ []
unfolding ◌+ℚ◌ ◌*ℚ◌ neg_ℚ ratio gcd_of whole
first_right = three _ _ _ _ _ _ (same_ℚ _ _ refl refl) (same_ℚ _ _ refl refl) (same_ℚ _ _ refl refl)

first_point : point_of (bounds first) solution ≡ n 2 ∷ n 3 ∷ []
unfolding ◌+ℚ◌ ◌*ℚ◌ neg_ℚ ratio gcd_of whole
first_point = two _ _ _ _ (same_ℚ _ _ refl refl) (same_ℚ _ _ refl refl)

first_value : quadratic (form_of first (bounds first)).quadratic (form_of first (bounds first)).cost (form_of first (bounds first)).constant solution ≡ n 8
unfolding ◌+ℚ◌ ◌*ℚ◌ neg_ℚ ratio gcd_of whole half
first_value = same_ℚ _ _ refl refl
