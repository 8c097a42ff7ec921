-- The checking calculation of worked certificates, by computing.
use Rattle.std.specs.Prelude.{◌≡◌, ◌^◌, ◌-◌, pos, List, [], ◌∷◌, Ok, Err}
use Rattle.std.proofs.Common.{refl}
use Rattle.rational.specs.Divisors.{gcd_of}
use Rattle.rational.specs.Rational.{ℚ, whole, fraction, ratio, neg_ℚ, reciprocal, ◌+ℚ◌, ◌*ℚ◌}
use Rattle.program_law.proofs.Worked.{n, minus, first, apart, between}
use Rattle.program_law.specs.declared.Square.{Square}
use Rattle.frac_core.specs.declared.fractions.Op.TheVariants.{Mul}
use Rattle.certificate_law.specs.declared.Node.{Node}
use Rattle.certificate_law.specs.declared.Node.TheVariants.{Branch, Bound, Farkas, Cross}
use Rattle.certificate_law.specs.declared.Certificate.TheVariants.{Optimal, Infeasible}
use Rattle.cert_check_law.specs.declared.Event.TheVariants.{Past, Failed}
use Rattle.cert_check_law.specs.Dot.{with_product}
use Rattle.cert_check_law.specs.Point.{row_within, column_within, point_test}
use Rattle.cert_check_law.specs.Value.{row_product, form_of, half_form, value_of}
use Rattle.cert_check_law.specs.Squares.{with_square, pair_test, squares_test}
use Rattle.cert_check_law.specs.Heads.{best_test}
use Rattle.cert_check_law.specs.Leaf.{with_side, gradient_at, with_column, leaf_sum, farkas_test, bound_test}
use Rattle.cert_check_law.specs.Tree.{branch_step, cross_test}
use Rattle.cert_check_law.specs.Check.{checked}

apart_accepted : checked apart (Infeasible (Farkas (minus 1 ∷ n 1 ∷ []) ∷ [])) ≡ Ok tt
unfolding ◌+ℚ◌ ◌*ℚ◌ neg_ℚ ratio gcd_of whole with_product with_side with_column leaf_sum farkas_test
apart_accepted = refl

apart_sum : checked apart (Infeasible (Farkas (minus 1 ∷ n 0 ∷ []) ∷ [])) ≡ Err (Failed 9 1)
unfolding ◌+ℚ◌ ◌*ℚ◌ neg_ℚ ratio gcd_of whole with_product with_side with_column leaf_sum farkas_test
apart_sum = refl

apart_side : checked apart (Infeasible (Farkas (n 1 ∷ n 0 ∷ []) ∷ [])) ≡ Err (Failed 7 1)
unfolding ◌+ℚ◌ ◌*ℚ◌ neg_ℚ ratio gcd_of whole with_product with_side with_column leaf_sum farkas_test
apart_side = refl

-- past: 2 times the largest numerator
abbrev top : ℚ
top = n (2 ^ 127 - 1)

apart_past : checked apart (Infeasible (Farkas (minus 1 ∷ top ∷ []) ∷ [])) ≡ Err (Past (record { op = Mul; left = top; right = n 2 }))
unfolding ◌+ℚ◌ ◌*ℚ◌ neg_ℚ ratio gcd_of whole reciprocal with_product row_within column_within point_test row_product form_of half_form value_of with_square pair_test squares_test best_test with_side gradient_at with_column leaf_sum farkas_test bound_test branch_step cross_test
apart_past = refl

abbrev squares : ℚ → List Square
squares weight = record { weight = weight; coef = n 1 ∷ n 0 ∷ [] } ∷ record { weight = n 8; coef = n 0 ∷ n 1 ∷ [] } ∷ []

abbrev leaf : ℚ → List Node
leaf y = Bound (n 2 ∷ n 3 ∷ []) (n 0 ∷ y ∷ []) ∷ []

-- the first program's certificate, and that certificate changed at one place each
first_accepted : checked first (Optimal (n 2 ∷ n 3 ∷ []) (n 8) (squares (n 2)) (leaf (minus 4))) ≡ Ok tt
unfolding ◌+ℚ◌ ◌*ℚ◌ neg_ℚ ratio gcd_of whole reciprocal with_product row_within column_within point_test row_product form_of half_form value_of with_square pair_test squares_test best_test with_side gradient_at with_column leaf_sum farkas_test bound_test branch_step cross_test
first_accepted = refl

first_value : checked first (Optimal (n 2 ∷ n 3 ∷ []) (n 7) (squares (n 2)) (leaf (minus 4))) ≡ Err (Failed 4 0)
unfolding ◌+ℚ◌ ◌*ℚ◌ neg_ℚ ratio gcd_of whole reciprocal with_product row_within column_within point_test row_product form_of half_form value_of with_square pair_test squares_test best_test with_side gradient_at with_column leaf_sum farkas_test bound_test branch_step cross_test
first_value = refl

first_leaf : checked first (Optimal (n 2 ∷ n 3 ∷ []) (n 8) (squares (n 2)) (leaf (minus 3))) ≡ Err (Failed 8 1)
unfolding ◌+ℚ◌ ◌*ℚ◌ neg_ℚ ratio gcd_of whole reciprocal with_product row_within column_within point_test row_product form_of half_form value_of with_square pair_test squares_test best_test with_side gradient_at with_column leaf_sum farkas_test bound_test branch_step cross_test
first_leaf = refl

first_point : checked first (Optimal (n 5 ∷ n 3 ∷ []) (n 8) (squares (n 2)) (leaf (minus 4))) ≡ Err (Failed 1 1)
unfolding ◌+ℚ◌ ◌*ℚ◌ neg_ℚ ratio gcd_of whole reciprocal with_product row_within column_within point_test row_product form_of half_form value_of with_square pair_test squares_test best_test with_side gradient_at with_column leaf_sum farkas_test bound_test branch_step cross_test
first_point = refl

first_squares : checked first (Optimal (n 2 ∷ n 3 ∷ []) (n 8) (squares (n 3)) (leaf (minus 4))) ≡ Err (Failed 5 1)
unfolding ◌+ℚ◌ ◌*ℚ◌ neg_ℚ ratio gcd_of whole reciprocal with_product row_within column_within point_test row_product form_of half_form value_of with_square pair_test squares_test best_test with_side gradient_at with_column leaf_sum farkas_test bound_test branch_step cross_test
first_squares = refl

first_cross : checked first (Optimal (n 2 ∷ n 3 ∷ []) (n 8) (squares (n 2)) (Cross 0 ∷ [])) ≡ Err (Failed 10 1)
unfolding ◌+ℚ◌ ◌*ℚ◌ neg_ℚ ratio gcd_of whole reciprocal with_product row_within column_within point_test row_product form_of half_form value_of with_square pair_test squares_test best_test with_side gradient_at with_column leaf_sum farkas_test bound_test branch_step cross_test
first_cross = refl

first_branch : checked first (Optimal (n 2 ∷ n 3 ∷ []) (n 8) (squares (n 2)) (Branch 0 (pos 2) ∷ Bound (n 2 ∷ n 3 ∷ []) (n 0 ∷ minus 4 ∷ []) ∷ Cross 0 ∷ [])) ≡ Err (Failed 6 1)
unfolding ◌+ℚ◌ ◌*ℚ◌ neg_ℚ ratio gcd_of whole reciprocal with_product row_within column_within point_test row_product form_of half_form value_of with_square pair_test squares_test best_test with_side gradient_at with_column leaf_sum farkas_test bound_test branch_step cross_test
first_branch = refl

-- both leaves of the branch reach 1/4
between_accepted : checked between (Optimal (n 0 ∷ []) (fraction (pos 1) 4) (record { weight = n 2; coef = n 1 ∷ [] } ∷ []) (Branch 0 (pos 0) ∷ Bound (n 0 ∷ []) [] ∷ Bound (n 1 ∷ []) [] ∷ [])) ≡ Ok tt
unfolding ◌+ℚ◌ ◌*ℚ◌ neg_ℚ ratio gcd_of whole reciprocal with_product row_within column_within point_test row_product form_of half_form value_of with_square pair_test squares_test best_test with_side gradient_at with_column leaf_sum farkas_test bound_test branch_step cross_test
between_accepted = refl
