-- The answer of a worked program, by computing: (x + y - 2)^2 goes from (0, 0) by one price step to (2, 0), and ends there.
use Rattle.std.proofs.Common.{◌≡◌, refl, sym, List, [], ◌∷◌, length, arith}
use Rattle.std.specs.Prelude.{pos}
use Rattle.algebra.proofs.Polynomial.{◌⊕◌, ◌⊗◌, ◌≼◌, lit}
use Rattle.algebra.proofs.Certificate.{prove, square, weight, ◌⊠◌, ◌⇐◌}
use Rattle.rational.specs.Divisors.{gcd_of}
use Rattle.rational.specs.Rational.{ℚ, zero_ℚ, whole, ratio, fraction, neg_ℚ, reciprocal, ◌+ℚ◌, ◌*ℚ◌}
use Rattle.rational.specs.Order.{◌≤ℚ◌, same_fields_lem}
use Rattle.rational.specs.Sums.{half}
use Rattle.rational.specs.Vectors.{IsSemidefinite, dot, rows_dot}
use Rattle.rational.proofs.Order.{ordered_rationals}
use Rattle.program_law.specs.Program.{bounds}
use Rattle.program_law.specs.Columns.{value}
use Rattle.equational_law.specs.Form.{Form, form_of, point_of, multipliers_of}
use Rattle.equational_law.specs.Solutions.{IsForm, IsSolution}
use Rattle.face_descent_law.specs.Small.{IsStationary}
use Rattle.quad_solve_law.specs.Problems.{feasible_problem, ray_problem, price_problem, price_multipliers}
use Rattle.quad_solve_law.specs.Walk.{IsSolvedWithin, IsRefutedWithin, IsPriced}
use Rattle.quad_solve_law.specs.Answer.{IsBest}
use Rattle.quad_solve_law.specs.Worked.{n, minus, valley}
use Rattle.quad_solve_law.proofs.Tested.{pivot, solved_by, refuted_by, list_is, form, form_is, solution, symmetric, stationary, priced, IsOneStep, best_by}

abbrev f : Form
f = record { matrix = []; right = []; quadratic = (n 2 ∷ n 2 ∷ []) ∷ (n 2 ∷ n 2 ∷ []) ∷ []; cost = minus 4 ∷ minus 4 ∷ []; constant = n 4 }

f_is : form_of valley (bounds valley) ≡ f
unfolding ◌+ℚ◌ ◌*ℚ◌ neg_ℚ ratio gcd_of whole reciprocal half
f_is = form_is (form_of valley (bounds valley)) f refl

fits : IsForm 2 f
unfolding ◌+ℚ◌ ◌*ℚ◌ neg_ℚ ratio gcd_of whole reciprocal
fits = form 2 f refl

-- its form is never below 0
nonneg : (v : List ℚ) → length v ≡ 2 → zero_ℚ ≤ℚ dot v (rows_dot f.quadratic v)
nonneg [] h = absurd (omega arith)
nonneg (a ∷ []) h = absurd (omega arith)
nonneg (a ∷ b ∷ []) h = prove ordered_rationals (a ∷ b ∷ [])
    (λ a b. lit 0 ≼ a ⊗ (lit 2 ⊗ a ⊕ (lit 2 ⊗ b ⊕ lit 0)) ⊕ (b ⊗ (lit 2 ⊗ a ⊕ (lit 2 ⊗ b ⊕ lit 0)) ⊕ lit 0)
    ⇐ weight 2 ⊠ square (a ⊕ b)) refl
nonneg (a ∷ b ∷ x ∷ v) h = absurd (omega arith)

convex : IsSemidefinite 2 f.quadratic
unfolding ◌+ℚ◌ ◌*ℚ◌ neg_ℚ ratio gcd_of whole reciprocal
convex = record { symmetric = symmetric 2 f.quadratic refl; nonneg = nonneg }

abbrev start : List ℚ
start = n 0 ∷ n 0 ∷ []

abbrev end : List ℚ
end = n 2 ∷ n 0 ∷ []

-- the feasible chain
feasible : IsSolvedWithin (feasible_problem f) 1 start
unfolding ◌+ℚ◌ ◌*ℚ◌ neg_ℚ ratio gcd_of whole reciprocal
feasible = solved_by (feasible_problem f) [] 1 start refl

abbrev no_ray : List ℚ
no_ray = minus 1 ∷ n 3 ∷ minus 1 ∷ []

-- the ray chain
rays : IsRefutedWithin (ray_problem f) 1 no_ray
unfolding ◌+ℚ◌ ◌*ℚ◌ neg_ℚ ratio gcd_of whole reciprocal
rays = refuted_by (ray_problem f) (pivot 2 0 1 ∷ []) 2 1 no_ray refl

abbrev parts : List ℚ
parts = fraction (pos 1) 4 ∷ n 0 ∷ []

-- the price chain at the start
down : IsSolvedWithin (price_problem f start) 1 parts
unfolding ◌+ℚ◌ ◌*ℚ◌ neg_ℚ ratio gcd_of whole reciprocal
down = solved_by (price_problem f start) (pivot 0 0 0 ∷ []) 1 parts refl

abbrev farkas : List ℚ
farkas = minus 1 ∷ []

-- the price chain at the end
done : IsRefutedWithin (price_problem f end) 1 farkas
unfolding ◌+ℚ◌ ◌*ℚ◌ neg_ℚ ratio gcd_of whole reciprocal
done = refuted_by (price_problem f end) [] 0 1 farkas refl

-- the walk
start_solves : IsSolution f start
unfolding ◌+ℚ◌ ◌*ℚ◌ neg_ℚ ratio gcd_of whole reciprocal
start_solves = solution f start refl

start_still : IsStationary f start
unfolding ◌+ℚ◌ ◌*ℚ◌ neg_ℚ ratio gcd_of whole reciprocal
start_still = stationary 2 f start ([]) fits convex refl refl

end_still : IsStationary f end
unfolding ◌+ℚ◌ ◌*ℚ◌ neg_ℚ ratio gcd_of whole reciprocal
end_still = stationary 2 f end ([]) fits convex refl refl

step : IsPriced f start end
unfolding ◌+ℚ◌ ◌*ℚ◌ neg_ℚ ratio gcd_of whole reciprocal
step = priced 2 f start parts (fraction (pos 1) 4 ∷ n 0 ∷ []) (n 8) end fits convex start_solves start_still (1, down) refl

one_step : IsOneStep 2 f 1 start end farkas
one_step = record {
  fits = fits;
  convex = convex;
  solved = feasible;
  no_ray = (no_ray, rays);
  direction = (parts, down);
  step = step;
  still = end_still;
  refuted = done;
  room = omega arith;
}

-- carried back
pub answer : IsBest valley (bounds valley) 1 (n 2 ∷ n 0 ∷ []) (n 0) ([])
unfolding ◌+ℚ◌ ◌*ℚ◌ neg_ℚ ratio gcd_of whole reciprocal half
answer = best_by valley (bounds valley) f 2 1 start end farkas (n 2 ∷ n 0 ∷ []) (n 0) ([]) f_is refl one_step
    (sym (list_is (point_of (bounds valley) end) (n 2 ∷ n 0 ∷ []) refl)) (sym (same_fields_lem (value valley (n 2 ∷ n 0 ∷ [])) (n 0) refl))
    (sym (list_is (multipliers_of valley (bounds valley) (price_multipliers f farkas)) ([]) refl))
