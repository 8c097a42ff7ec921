-- The answer of a worked program, by computing: -x falls without end from 0 along 1.
use Rattle.std.proofs.Common.{◌≡◌, refl, sym, subst, [], ◌∷◌}
use Rattle.rational.specs.Divisors.{gcd_of}
use Rattle.rational.specs.Rational.{whole, ratio, neg_ℚ, reciprocal, ◌+ℚ◌, ◌*ℚ◌}
use Rattle.rational.specs.Sums.{half}
use Rattle.program_law.specs.Program.{bounds}
use Rattle.equational_law.specs.Form.{Form, form_of, point_of, direction_of}
use Rattle.quad_solve_law.specs.Problems.{feasible_problem, ray_problem}
use Rattle.quad_solve_law.specs.Walk.{IsSolvedWithin}
use Rattle.quad_solve_law.specs.Answer.{IsFalling}
use Rattle.quad_solve_law.specs.Worked.{n, minus, slope}
use Rattle.quad_solve_law.proofs.Tested.{pivot, solved_by, list_is, form_is}

abbrev f : Form
f = record { matrix = []; right = []; quadratic = (n 0 ∷ []) ∷ []; cost = minus 1 ∷ []; constant = n 0 }

f_is : form_of slope (bounds slope) ≡ f
unfolding ◌+ℚ◌ ◌*ℚ◌ neg_ℚ ratio gcd_of whole reciprocal half
f_is = form_is (form_of slope (bounds slope)) f refl

-- the feasible chain
feasible : IsSolvedWithin (feasible_problem f) 1 (n 0 ∷ [])
unfolding ◌+ℚ◌ ◌*ℚ◌ neg_ℚ ratio gcd_of whole reciprocal
feasible = solved_by (feasible_problem f) [] 1 (n 0 ∷ []) refl

-- the ray chain
rays : IsSolvedWithin (ray_problem f) 1 (n 1 ∷ [])
unfolding ◌+ℚ◌ ◌*ℚ◌ neg_ℚ ratio gcd_of whole reciprocal
rays = solved_by (ray_problem f) (pivot 1 0 1 ∷ []) 1 (n 1 ∷ []) refl

-- carried back
pub answer : IsFalling slope (bounds slope) 1 (n 0 ∷ []) (n 1 ∷ [])
unfolding ◌+ℚ◌ ◌*ℚ◌ neg_ℚ ratio gcd_of whole reciprocal
answer = record {
  found = record {
    solution = n 0 ∷ [];
    solved = subst (λ f. IsSolvedWithin (feasible_problem f) 1 (n 0 ∷ [])) (sym f_is) feasible;
    point = sym (list_is (point_of (bounds slope) (n 0 ∷ [])) (n 0 ∷ []) refl);
  };
  ray = n 1 ∷ [];
  solved = subst (λ f. IsSolvedWithin (ray_problem f) 1 (n 1 ∷ [])) (sym f_is) rays;
  direction = sym (list_is (direction_of (bounds slope) (n 1 ∷ [])) (n 1 ∷ []) refl);
}
