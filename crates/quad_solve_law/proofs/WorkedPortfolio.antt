-- The answer of a worked program, by computing: the walk starts without the third column, which a price step takes in.
use Rattle.std.proofs.Common.{◌≡◌, refl, sym, List, [], ◌∷◌, length, arith}
use Rattle.std.specs.Prelude.{pos, neg_ℤ}
use Rattle.algebra.proofs.Polynomial.{◌⊕◌, ◌⊗◌, ◌≼◌, lit}
use Rattle.algebra.proofs.Certificate.{prove, square, weight, ◌⊞◌, ◌⊠◌, ◌⇐◌}
use Rattle.rational.specs.Divisors.{gcd_of}
use Rattle.rational.specs.Rational.{ℚ, zero_ℚ, whole, ratio, fraction, neg_ℚ, reciprocal, ◌+ℚ◌, ◌*ℚ◌}
use Rattle.rational.specs.Order.{◌≤ℚ◌, same_fields_lem}
use Rattle.rational.specs.Sums.{half}
use Rattle.rational.specs.Vectors.{IsSemidefinite, dot, rows_dot}
use Rattle.rational.proofs.Order.{ordered_rationals}
use Rattle.program_law.specs.Program.{bounds}
use Rattle.program_law.specs.Columns.{value}
use Rattle.equational_law.specs.Form.{Form, form_of, point_of, multipliers_of}
use Rattle.equational_law.specs.Solutions.{IsForm, IsSolution}
use Rattle.face_descent_law.specs.Small.{IsStationary}
use Rattle.quad_solve_law.specs.Problems.{feasible_problem, ray_problem, price_problem, price_multipliers}
use Rattle.quad_solve_law.specs.Walk.{IsSolvedWithin, IsRefutedWithin, IsPriced}
use Rattle.quad_solve_law.specs.Answer.{IsBest}
use Rattle.quad_solve_law.specs.Worked.{n, minus, portfolio}
use Rattle.quad_solve_law.proofs.Tested.{pivot, solved_by, refuted_by, list_is, form, form_is, solution, symmetric, stationary, priced, IsOneStep, best_by}

abbrev f : Form
f = record { matrix = (n 1 ∷ n 1 ∷ n 1 ∷ n 0 ∷ []) ∷ (n 10 ∷ n 6 ∷ n 4 ∷ minus 1 ∷ []) ∷ []; right = n 1 ∷ n 7 ∷ []; quadratic = (n 8 ∷ n 0 ∷ n 0 ∷ n 0 ∷ []) ∷ (n 0 ∷ n 4 ∷ n 0 ∷ n 0 ∷ []) ∷ (n 0 ∷ n 0 ∷ n 2 ∷ n 0 ∷ []) ∷ (n 0 ∷ n 0 ∷ n 0 ∷ n 0 ∷ []) ∷ []; cost = n 0 ∷ n 0 ∷ n 0 ∷ n 0 ∷ []; constant = n 0 }

f_is : form_of portfolio (bounds portfolio) ≡ f
unfolding ◌+ℚ◌ ◌*ℚ◌ neg_ℚ ratio gcd_of whole reciprocal half
f_is = form_is (form_of portfolio (bounds portfolio)) f refl

fits : IsForm 4 f
unfolding ◌+ℚ◌ ◌*ℚ◌ neg_ℚ ratio gcd_of whole reciprocal
fits = form 4 f refl

-- its form is never below 0
nonneg : (v : List ℚ) → length v ≡ 4 → zero_ℚ ≤ℚ dot v (rows_dot f.quadratic v)
nonneg [] h = absurd (omega arith)
nonneg (a ∷ []) h = absurd (omega arith)
nonneg (a ∷ b ∷ []) h = absurd (omega arith)
nonneg (a ∷ b ∷ c ∷ []) h = absurd (omega arith)
nonneg (a ∷ b ∷ c ∷ d ∷ []) h = prove ordered_rationals (a ∷ b ∷ c ∷ d ∷ [])
    (λ a b c d. lit 0 ≼ a ⊗ (lit 8 ⊗ a ⊕ (lit 0 ⊗ b ⊕ (lit 0 ⊗ c ⊕ (lit 0 ⊗ d ⊕ lit 0)))) ⊕ (b ⊗ (lit 0 ⊗ a ⊕ (lit 4 ⊗ b ⊕ (lit 0 ⊗ c ⊕ (lit 0 ⊗ d ⊕ lit 0)))) ⊕ (c ⊗ (lit 0 ⊗ a ⊕ (lit 0 ⊗ b ⊕ (lit 2 ⊗ c ⊕ (lit 0 ⊗ d ⊕ lit 0)))) ⊕ (d ⊗ (lit 0 ⊗ a ⊕ (lit 0 ⊗ b ⊕ (lit 0 ⊗ c ⊕ (lit 0 ⊗ d ⊕ lit 0)))) ⊕ lit 0)))
    ⇐ (weight 8 ⊠ square a) ⊞ (weight 4 ⊠ square b) ⊞ (weight 2 ⊠ square c)) refl
nonneg (a ∷ b ∷ c ∷ d ∷ x ∷ v) h = absurd (omega arith)

convex : IsSemidefinite 4 f.quadratic
unfolding ◌+ℚ◌ ◌*ℚ◌ neg_ℚ ratio gcd_of whole reciprocal
convex = record { symmetric = symmetric 4 f.quadratic refl; nonneg = nonneg }

abbrev start : List ℚ
start = fraction (pos 1) 4 ∷ fraction (pos 3) 4 ∷ n 0 ∷ n 0 ∷ []

abbrev end : List ℚ
end = fraction (pos 5) 13 ∷ fraction (pos 9) 26 ∷ fraction (pos 7) 26 ∷ n 0 ∷ []

-- the feasible chain
feasible : IsSolvedWithin (feasible_problem f) 6 start
unfolding ◌+ℚ◌ ◌*ℚ◌ neg_ℚ ratio gcd_of whole reciprocal
feasible = solved_by (feasible_problem f) (pivot 0 0 1 ∷ pivot 0 1 0 ∷ []) 6 start refl

abbrev no_ray : List ℚ
no_ray = minus 1 ∷ minus 1 ∷ fraction (pos 11) 8 ∷ fraction (pos 7) 4 ∷ fraction (pos 5) 2 ∷ minus 1 ∷ minus 1 ∷ []

-- the ray chain
rays : IsRefutedWithin (ray_problem f) 6 no_ray
unfolding ◌+ℚ◌ ◌*ℚ◌ neg_ℚ ratio gcd_of whole reciprocal
rays = refuted_by (ray_problem f) (pivot 6 0 2 ∷ pivot 6 1 3 ∷ pivot 6 2 4 ∷ []) 6 6 no_ray refl

abbrev parts : List ℚ
parts = fraction (pos 1) 7 ∷ n 0 ∷ fraction (pos 2) 7 ∷ n 0 ∷ n 0 ∷ fraction (pos 3) 7 ∷ []

-- the price chain at the start
down : IsSolvedWithin (price_problem f start) 6 parts
unfolding ◌+ℚ◌ ◌*ℚ◌ neg_ℚ ratio gcd_of whole reciprocal
down = solved_by (price_problem f start) (pivot 2 0 1 ∷ pivot 2 2 1 ∷ pivot 2 3 0 ∷ pivot 2 4 0 ∷ pivot 2 5 0 ∷ pivot 2 0 2 ∷ []) 6 parts refl

abbrev farkas : List ℚ
farkas = fraction (pos 15) 13 ∷ fraction (neg_ℤ (pos 11)) 26 ∷ minus 1 ∷ []

-- the price chain at the end
done : IsRefutedWithin (price_problem f end) 6 farkas
unfolding ◌+ℚ◌ ◌*ℚ◌ neg_ℚ ratio gcd_of whole reciprocal
done = refuted_by (price_problem f end) (pivot 2 0 1 ∷ pivot 2 1 1 ∷ pivot 2 2 1 ∷ pivot 2 3 0 ∷ pivot 2 4 0 ∷ []) 2 6 farkas refl

-- the walk
start_solves : IsSolution f start
unfolding ◌+ℚ◌ ◌*ℚ◌ neg_ℚ ratio gcd_of whole reciprocal
start_solves = solution f start refl

start_still : IsStationary f start
unfolding ◌+ℚ◌ ◌*ℚ◌ neg_ℚ ratio gcd_of whole reciprocal
start_still = stationary 4 f start (fraction (pos 9) 2 ∷ fraction (neg_ℤ (pos 1)) 4 ∷ []) fits convex refl refl

end_still : IsStationary f end
unfolding ◌+ℚ◌ ◌*ℚ◌ neg_ℚ ratio gcd_of whole reciprocal
end_still = stationary 4 f end (fraction (neg_ℤ (pos 15)) 13 ∷ fraction (pos 11) 26 ∷ []) fits convex refl refl

step : IsPriced f start end
unfolding ◌+ℚ◌ ◌*ℚ◌ neg_ℚ ratio gcd_of whole reciprocal
step = priced 4 f start parts (fraction (pos 1) 7 ∷ fraction (neg_ℤ (pos 3)) 7 ∷ fraction (pos 2) 7 ∷ n 0 ∷ []) (fraction (pos 49) 52) end fits convex start_solves start_still (6, down) refl

one_step : IsOneStep 4 f 6 start end farkas
one_step = record {
  fits = fits;
  convex = convex;
  solved = feasible;
  no_ray = (no_ray, rays);
  direction = (parts, down);
  step = step;
  still = end_still;
  refuted = done;
  room = omega arith;
}

-- carried back
pub answer : IsBest portfolio (bounds portfolio) 6 (fraction (pos 5) 13 ∷ fraction (pos 9) 26 ∷ fraction (pos 7) 26 ∷ []) (fraction (pos 47) 52) (fraction (neg_ℤ (pos 15)) 13 ∷ fraction (pos 11) 26 ∷ [])
unfolding ◌+ℚ◌ ◌*ℚ◌ neg_ℚ ratio gcd_of whole reciprocal half
answer = best_by portfolio (bounds portfolio) f 4 6 start end farkas (fraction (pos 5) 13 ∷ fraction (pos 9) 26 ∷ fraction (pos 7) 26 ∷ []) (fraction (pos 47) 52) (fraction (neg_ℤ (pos 15)) 13 ∷ fraction (pos 11) 26 ∷ []) f_is refl one_step
    (sym (list_is (point_of (bounds portfolio) end) (fraction (pos 5) 13 ∷ fraction (pos 9) 26 ∷ fraction (pos 7) 26 ∷ []) refl)) (sym (same_fields_lem (value portfolio (fraction (pos 5) 13 ∷ fraction (pos 9) 26 ∷ fraction (pos 7) 26 ∷ [])) (fraction (pos 47) 52) refl))
    (sym (list_is (multipliers_of portfolio (bounds portfolio) (price_multipliers f farkas)) (fraction (neg_ℤ (pos 15)) 13 ∷ fraction (pos 11) 26 ∷ []) refl))
