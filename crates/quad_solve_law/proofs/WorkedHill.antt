-- The answer of a worked program, by computing: the walk starts at a corner of the form, goes by one price step to (2, 3), and ends there.
use Rattle.std.proofs.Common.{◌≡◌, refl, sym, List, [], ◌∷◌, length, arith}
use Rattle.std.specs.Prelude.{pos, neg_ℤ}
use Rattle.algebra.proofs.Polynomial.{◌⊕◌, ◌⊗◌, ◌≼◌, lit}
use Rattle.algebra.proofs.Certificate.{prove, square, weight, ◌⊞◌, ◌⊠◌, ◌⇐◌}
use Rattle.rational.specs.Divisors.{gcd_of}
use Rattle.rational.specs.Rational.{ℚ, zero_ℚ, whole, ratio, fraction, neg_ℚ, reciprocal, ◌+ℚ◌, ◌*ℚ◌}
use Rattle.rational.specs.Order.{◌≤ℚ◌, same_fields_lem}
use Rattle.rational.specs.Sums.{half}
use Rattle.rational.specs.Vectors.{IsSemidefinite, dot, rows_dot}
use Rattle.rational.proofs.Order.{ordered_rationals}
use Rattle.program_law.specs.Program.{bounds}
use Rattle.program_law.specs.Columns.{value}
use Rattle.equational_law.specs.Form.{Form, form_of, point_of, multipliers_of}
use Rattle.equational_law.specs.Solutions.{IsForm, IsSolution}
use Rattle.face_descent_law.specs.Small.{IsStationary}
use Rattle.quad_solve_law.specs.Problems.{feasible_problem, ray_problem, price_problem, price_multipliers}
use Rattle.quad_solve_law.specs.Walk.{IsSolvedWithin, IsRefutedWithin, IsPriced}
use Rattle.quad_solve_law.specs.Answer.{IsBest}
use Rattle.quad_solve_law.specs.Worked.{n, minus, hill}
use Rattle.quad_solve_law.proofs.Tested.{pivot, solved_by, refuted_by, list_is, form, form_is, solution, symmetric, stationary, priced, IsOneStep, best_by}

abbrev f : Form
f = record { matrix = (n 1 ∷ n 1 ∷ n 1 ∷ n 0 ∷ n 0 ∷ []) ∷ (minus 1 ∷ n 2 ∷ n 0 ∷ n 1 ∷ n 0 ∷ []) ∷ (n 0 ∷ n 1 ∷ n 0 ∷ n 0 ∷ n 1 ∷ []) ∷ []; right = n 7 ∷ n 4 ∷ n 4 ∷ []; quadratic = (n 2 ∷ n 0 ∷ n 0 ∷ n 0 ∷ n 0 ∷ []) ∷ (n 0 ∷ n 8 ∷ n 0 ∷ n 0 ∷ n 0 ∷ []) ∷ (n 0 ∷ n 0 ∷ n 0 ∷ n 0 ∷ n 0 ∷ []) ∷ (n 0 ∷ n 0 ∷ n 0 ∷ n 0 ∷ n 0 ∷ []) ∷ (n 0 ∷ n 0 ∷ n 0 ∷ n 0 ∷ n 0 ∷ []) ∷ []; cost = n 0 ∷ minus 32 ∷ n 0 ∷ n 0 ∷ n 0 ∷ []; constant = n 64 }

f_is : form_of hill (bounds hill) ≡ f
unfolding ◌+ℚ◌ ◌*ℚ◌ neg_ℚ ratio gcd_of whole reciprocal half
f_is = form_is (form_of hill (bounds hill)) f refl

fits : IsForm 5 f
unfolding ◌+ℚ◌ ◌*ℚ◌ neg_ℚ ratio gcd_of whole reciprocal
fits = form 5 f refl

-- its form is never below 0
nonneg : (v : List ℚ) → length v ≡ 5 → zero_ℚ ≤ℚ dot v (rows_dot f.quadratic v)
nonneg [] h = absurd (omega arith)
nonneg (a ∷ []) h = absurd (omega arith)
nonneg (a ∷ b ∷ []) h = absurd (omega arith)
nonneg (a ∷ b ∷ c ∷ []) h = absurd (omega arith)
nonneg (a ∷ b ∷ c ∷ d ∷ []) h = absurd (omega arith)
nonneg (a ∷ b ∷ c ∷ d ∷ e ∷ []) h = prove ordered_rationals (a ∷ b ∷ c ∷ d ∷ e ∷ [])
    (λ a b c d e. lit 0 ≼ a ⊗ (lit 2 ⊗ a ⊕ (lit 0 ⊗ b ⊕ (lit 0 ⊗ c ⊕ (lit 0 ⊗ d ⊕ (lit 0 ⊗ e ⊕ lit 0))))) ⊕ (b ⊗ (lit 0 ⊗ a ⊕ (lit 8 ⊗ b ⊕ (lit 0 ⊗ c ⊕ (lit 0 ⊗ d ⊕ (lit 0 ⊗ e ⊕ lit 0))))) ⊕ (c ⊗ (lit 0 ⊗ a ⊕ (lit 0 ⊗ b ⊕ (lit 0 ⊗ c ⊕ (lit 0 ⊗ d ⊕ (lit 0 ⊗ e ⊕ lit 0))))) ⊕ (d ⊗ (lit 0 ⊗ a ⊕ (lit 0 ⊗ b ⊕ (lit 0 ⊗ c ⊕ (lit 0 ⊗ d ⊕ (lit 0 ⊗ e ⊕ lit 0))))) ⊕ (e ⊗ (lit 0 ⊗ a ⊕ (lit 0 ⊗ b ⊕ (lit 0 ⊗ c ⊕ (lit 0 ⊗ d ⊕ (lit 0 ⊗ e ⊕ lit 0))))) ⊕ lit 0))))
    ⇐ (weight 2 ⊠ square a) ⊞ (weight 8 ⊠ square b)) refl
nonneg (a ∷ b ∷ c ∷ d ∷ e ∷ x ∷ v) h = absurd (omega arith)

convex : IsSemidefinite 5 f.quadratic
unfolding ◌+ℚ◌ ◌*ℚ◌ neg_ℚ ratio gcd_of whole reciprocal
convex = record { symmetric = symmetric 5 f.quadratic refl; nonneg = nonneg }

abbrev start : List ℚ
start = fraction (pos 10) 3 ∷ fraction (pos 11) 3 ∷ n 0 ∷ n 0 ∷ fraction (pos 1) 3 ∷ []

abbrev end : List ℚ
end = n 2 ∷ n 3 ∷ n 2 ∷ n 0 ∷ n 1 ∷ []

-- the feasible chain
feasible : IsSolvedWithin (feasible_problem f) 6 start
unfolding ◌+ℚ◌ ◌*ℚ◌ neg_ℚ ratio gcd_of whole reciprocal
feasible = solved_by (feasible_problem f) (pivot 0 1 1 ∷ pivot 0 0 0 ∷ pivot 2 4 2 ∷ []) 6 start refl

abbrev no_ray : List ℚ
no_ray = n 0 ∷ n 0 ∷ n 0 ∷ n 0 ∷ n 4 ∷ minus 1 ∷ minus 1 ∷ minus 1 ∷ minus 1 ∷ []

-- the ray chain
rays : IsRefutedWithin (ray_problem f) 6 no_ray
unfolding ◌+ℚ◌ ◌*ℚ◌ neg_ℚ ratio gcd_of whole reciprocal
rays = refuted_by (ray_problem f) (pivot 8 0 3 ∷ pivot 8 1 4 ∷ pivot 8 2 0 ∷ pivot 8 3 1 ∷ pivot 8 4 2 ∷ []) 8 6 no_ray refl

abbrev parts : List ℚ
parts = n 0 ∷ n 0 ∷ fraction (pos 9) 32 ∷ n 0 ∷ fraction (pos 3) 32 ∷ fraction (pos 3) 16 ∷ fraction (pos 3) 32 ∷ n 0 ∷ []

-- the price chain at the start
down : IsSolvedWithin (price_problem f start) 6 parts
unfolding ◌+ℚ◌ ◌*ℚ◌ neg_ℚ ratio gcd_of whole reciprocal
down = solved_by (price_problem f start) (pivot 3 1 2 ∷ pivot 3 2 0 ∷ pivot 3 3 1 ∷ pivot 3 5 1 ∷ pivot 3 4 2 ∷ pivot 3 6 3 ∷ []) 6 parts refl

abbrev farkas : List ℚ
farkas = n 0 ∷ n 4 ∷ n 0 ∷ minus 1 ∷ []

-- the price chain at the end
done : IsRefutedWithin (price_problem f end) 6 farkas
unfolding ◌+ℚ◌ ◌*ℚ◌ neg_ℚ ratio gcd_of whole reciprocal
done = refuted_by (price_problem f end) (pivot 3 1 2 ∷ pivot 3 2 0 ∷ pivot 3 3 1 ∷ pivot 3 5 1 ∷ []) 3 6 farkas refl

-- the walk
start_solves : IsSolution f start
unfolding ◌+ℚ◌ ◌*ℚ◌ neg_ℚ ratio gcd_of whole reciprocal
start_solves = solution f start refl

start_still : IsStationary f start
unfolding ◌+ℚ◌ ◌*ℚ◌ neg_ℚ ratio gcd_of whole reciprocal
start_still = stationary 5 f start (fraction (pos 32) 9 ∷ fraction (neg_ℤ (pos 28)) 9 ∷ n 0 ∷ []) fits convex refl refl

end_still : IsStationary f end
unfolding ◌+ℚ◌ ◌*ℚ◌ neg_ℚ ratio gcd_of whole reciprocal
end_still = stationary 5 f end (n 0 ∷ minus 4 ∷ n 0 ∷ []) fits convex refl refl

step : IsPriced f start end
unfolding ◌+ℚ◌ ◌*ℚ◌ neg_ℚ ratio gcd_of whole reciprocal
step = priced 5 f start parts (fraction (neg_ℤ (pos 3)) 16 ∷ fraction (neg_ℤ (pos 3)) 32 ∷ fraction (pos 9) 32 ∷ n 0 ∷ fraction (pos 3) 32 ∷ []) (fraction (pos 64) 9) end fits convex start_solves start_still (6, down) refl

one_step : IsOneStep 5 f 6 start end farkas
one_step = record {
  fits = fits;
  convex = convex;
  solved = feasible;
  no_ray = (no_ray, rays);
  direction = (parts, down);
  step = step;
  still = end_still;
  refuted = done;
  room = omega arith;
}

-- carried back
pub answer : IsBest hill (bounds hill) 6 (n 2 ∷ n 3 ∷ []) (n 8) (n 0 ∷ minus 4 ∷ [])
unfolding ◌+ℚ◌ ◌*ℚ◌ neg_ℚ ratio gcd_of whole reciprocal half
answer = best_by hill (bounds hill) f 5 6 start end farkas (n 2 ∷ n 3 ∷ []) (n 8) (n 0 ∷ minus 4 ∷ []) f_is refl one_step
    (sym (list_is (point_of (bounds hill) end) (n 2 ∷ n 3 ∷ []) refl)) (sym (same_fields_lem (value hill (n 2 ∷ n 3 ∷ [])) (n 8) refl))
    (sym (list_is (multipliers_of hill (bounds hill) (price_multipliers f farkas)) (n 0 ∷ minus 4 ∷ []) refl))
