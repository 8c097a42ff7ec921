-- A worked program whose search finds two whole points of one value: x^2 - x + 1/4 with x whole.
use Rattle.std.specs.Prelude.{◌≡◌, ◌⊎◌, ℕ, zero, suc, pos, neg_ℤ, List, [], ◌∷◌, length, Some, None}
use Rattle.std.proofs.Common.{refl, sym, ◌∙◌, ap, subst, arith, inl, inr}
use Rattle.algebra.proofs.Polynomial.{◌⊕◌, ◌⊗◌, ◌≼◌, lit}
use Rattle.algebra.proofs.Certificate.{prove, weight, square, ◌⊠◌, ◌⇐◌}
use Rattle.rational.specs.Divisors.{gcd_of}
use Rattle.rational.specs.Rational.{ℚ, zero_ℚ, whole, ratio, fraction, neg_ℚ, reciprocal, ◌+ℚ◌, ◌*ℚ◌}
use Rattle.rational.specs.Order.{◌≤ℚ◌, ◌<ℚ◌, same_fields_lem}
use Rattle.rational.specs.Sums.{half}
use Rattle.rational.specs.Vectors.{IsSymmetric, IsSemidefinite, dot, rows_dot}
use Rattle.rational.proofs.Order.{ordered_rationals, lt_irrefl}
use Rattle.rational.proofs.OrderLaws.{le_of_eq}
use Rattle.rational.proofs.Wholes.{den-whole}
use Rattle.program_law.specs.Region.{Region, IsCrossedAt, IsCrossedRegion, bounds_at}
use Rattle.program_law.specs.Program.{bounds}
use Rattle.program_law.specs.Columns.{value}
use Rattle.certificate_law.specs.declared.Node.{Node}
use Rattle.certificate_law.specs.declared.Node.TheVariants.{Branch, Bound}
use Rattle.certificate_law.specs.declared.Certificate.TheVariants.{Optimal}
use Rattle.equational_law.specs.Form.{Form, form_of, point_of}
use Rattle.equational_law.specs.Solutions.{IsForm, IsSolution}
use Rattle.face_descent_law.specs.Small.{IsStationary}
use Rattle.quad_solve_law.specs.Problems.{feasible_problem, ray_problem, price_problem}
use Rattle.quad_solve_law.specs.Walk.{IsSolvedWithin, IsRefutedWithin, IsPriced}
use Rattle.quad_solve_law.specs.Answer.{IsBest}
use Rattle.quad_solve_law.specs.Worked.{n, minus, over}
use Rattle.quad_solve_law.proofs.Tested.{pivot, solved_by, refuted_by, list_is, form, form_is, solution, symmetric, stationary, priced, IsOneStep, best_by}
use Rattle.branching_law.specs.Paths.{region_of, below, above}
use Rattle.branching_law.specs.Rounding.{IsFractional, HasFractionalBound}
use Rattle.branching_law.specs.Nodes.{ForBest, IsBranch, IsKept}
use Rattle.branching_law.specs.Found.{Convex, IsFoundOf}
use Rattle.branching_law.specs.Worked.{bowl, bowl_squares}
use Rattle.branching_law.proofs.Incumbents.{nothing_in, head_or}
use Rattle.branching_law.proofs.WorkedSearch.{best_by_start, two_is_not_one, zero_most, one_less, nothing_before, no_bounds_cross}

abbrev middle : ℚ
middle = fraction (pos 1) 2

-- ---- the root

abbrev f : Form
f = record { matrix = []; right = []; quadratic = (n 2 ∷ []) ∷ []; cost = minus 1 ∷ []; constant = over 1 4 }

f_is : form_of bowl (bounds bowl) ≡ f
unfolding ◌+ℚ◌ ◌*ℚ◌ neg_ℚ ratio gcd_of whole reciprocal half
f_is = form_is (form_of bowl (bounds bowl)) f refl

f_fits : IsForm 1 f
unfolding ◌+ℚ◌ ◌*ℚ◌ neg_ℚ ratio gcd_of whole reciprocal
f_fits = form 1 f refl

one_nonneg : (v : List ℚ) → length v ≡ 1 → zero_ℚ ≤ℚ dot v (rows_dot ((n 2 ∷ []) ∷ []) v)
one_nonneg [] h = absurd (omega arith)
one_nonneg (a ∷ []) h = prove ordered_rationals (a ∷ []) (λ a. lit 0 ≼ a ⊗ (lit 2 ⊗ a ⊕ lit 0) ⊕ lit 0 ⇐ weight 2 ⊠ square a) refl
one_nonneg (a ∷ b ∷ v) h = absurd (omega arith)

one_symmetric : IsSymmetric 1 ((n 2 ∷ []) ∷ [])
unfolding ratio gcd_of whole
one_symmetric = symmetric 1 ((n 2 ∷ []) ∷ []) refl

one_convex : IsSemidefinite 1 ((n 2 ∷ []) ∷ [])
one_convex = record { symmetric = one_symmetric; nonneg = one_nonneg }

f_solved : IsSolvedWithin (feasible_problem f) 2 (n 0 ∷ [])
unfolding ◌+ℚ◌ ◌*ℚ◌ neg_ℚ ratio gcd_of whole reciprocal
f_solved = solved_by (feasible_problem f) [] 2 (n 0 ∷ []) refl

f_rays : IsRefutedWithin (ray_problem f) 2 (middle ∷ minus 1 ∷ [])
unfolding ◌+ℚ◌ ◌*ℚ◌ neg_ℚ ratio gcd_of whole reciprocal
f_rays = refuted_by (ray_problem f) (pivot 1 0 0 ∷ []) 1 2 (middle ∷ minus 1 ∷ []) refl

f_down : IsSolvedWithin (price_problem f (n 0 ∷ [])) 2 (n 1 ∷ [])
unfolding ◌+ℚ◌ ◌*ℚ◌ neg_ℚ ratio gcd_of whole reciprocal
f_down = solved_by (price_problem f (n 0 ∷ [])) (pivot 0 0 0 ∷ []) 2 (n 1 ∷ []) refl

f_done : IsRefutedWithin (price_problem f (middle ∷ [])) 2 (minus 1 ∷ [])
unfolding ◌+ℚ◌ ◌*ℚ◌ neg_ℚ ratio gcd_of whole reciprocal
f_done = refuted_by (price_problem f (middle ∷ [])) [] 0 2 (minus 1 ∷ []) refl

f_start : IsSolution f (n 0 ∷ [])
unfolding ◌+ℚ◌ ◌*ℚ◌ neg_ℚ ratio gcd_of whole reciprocal
f_start = solution f (n 0 ∷ []) refl

f_start_still : IsStationary f (n 0 ∷ [])
unfolding ◌+ℚ◌ ◌*ℚ◌ neg_ℚ ratio gcd_of whole reciprocal
f_start_still = stationary 1 f (n 0 ∷ []) [] f_fits one_convex refl refl

f_end_still : IsStationary f (middle ∷ [])
unfolding ◌+ℚ◌ ◌*ℚ◌ neg_ℚ ratio gcd_of whole reciprocal
f_end_still = stationary 1 f (middle ∷ []) [] f_fits one_convex refl refl

f_step : IsPriced f (n 0 ∷ []) (middle ∷ [])
unfolding ◌+ℚ◌ ◌*ℚ◌ neg_ℚ ratio gcd_of whole reciprocal
f_step = priced 1 f (n 0 ∷ []) (n 1 ∷ []) (n 1 ∷ []) middle (middle ∷ []) f_fits one_convex f_start f_start_still (2, f_down) refl

f_one_step : IsOneStep 1 f 2 (n 0 ∷ []) (middle ∷ []) (minus 1 ∷ [])
f_one_step = record {
  fits = f_fits;
  convex = one_convex;
  solved = f_solved;
  no_ray = (middle ∷ minus 1 ∷ [], f_rays);
  direction = (n 1 ∷ [], f_down);
  step = f_step;
  still = f_end_still;
  refuted = f_done;
  room = omega arith;
}

root : IsBest bowl (bounds bowl) 2 (middle ∷ []) (value bowl (middle ∷ [])) []
unfolding ◌+ℚ◌ ◌*ℚ◌ neg_ℚ ratio gcd_of whole reciprocal
root = best_by bowl (bounds bowl) f 1 2 (n 0 ∷ []) (middle ∷ []) (minus 1 ∷ []) (middle ∷ []) (value bowl (middle ∷ [])) [] f_is refl f_one_step
    (sym (list_is (point_of (bounds bowl) (middle ∷ [])) (middle ∷ []) refl)) refl refl

branch : IsBranch bowl (middle ∷ []) 0 (pos 0)
unfolding ratio gcd_of whole
branch = record {
  first = record { holds = record { marked = refl; fractional = two_is_not_one 2 refl }; not_before = λ i h k. nothing_before i h };
  floor = record { below = zero_most; next_above = one_less };
}

-- ---- below 0

abbrev lower : Region
lower = region_of bowl (below 0 (pos 0) ∷ [])

abbrev g : Form
g = record { matrix = (n 1 ∷ n 1 ∷ []) ∷ []; right = n 0 ∷ []; quadratic = (n 2 ∷ n 0 ∷ []) ∷ (n 0 ∷ n 0 ∷ []) ∷ []; cost = minus 1 ∷ n 0 ∷ []; constant = over 1 4 }

g_is : form_of bowl lower ≡ g
unfolding ◌+ℚ◌ ◌*ℚ◌ neg_ℚ ratio gcd_of whole reciprocal half
g_is = form_is (form_of bowl lower) g refl

g_fits : IsForm 2 g
unfolding ◌+ℚ◌ ◌*ℚ◌ neg_ℚ ratio gcd_of whole reciprocal
g_fits = form 2 g refl

two_nonneg : (v : List ℚ) → length v ≡ 2 → zero_ℚ ≤ℚ dot v (rows_dot g.quadratic v)
two_nonneg [] h = absurd (omega arith)
two_nonneg (a ∷ []) h = absurd (omega arith)
two_nonneg (a ∷ b ∷ []) h = prove ordered_rationals (a ∷ b ∷ []) (λ a b. lit 0 ≼ a ⊗ (lit 2 ⊗ a ⊕ (lit 0 ⊗ b ⊕ lit 0)) ⊕ (b ⊗ (lit 0 ⊗ a ⊕ (lit 0 ⊗ b ⊕ lit 0)) ⊕ lit 0) ⇐ weight 2 ⊠ square a) refl
two_nonneg (a ∷ b ∷ c ∷ v) h = absurd (omega arith)

two_symmetric : IsSymmetric 2 g.quadratic
unfolding ratio gcd_of whole
two_symmetric = symmetric 2 g.quadratic refl

g_solved : IsSolvedWithin (feasible_problem g) 2 (n 0 ∷ n 0 ∷ [])
unfolding ◌+ℚ◌ ◌*ℚ◌ neg_ℚ ratio gcd_of whole reciprocal
g_solved = solved_by (feasible_problem g) [] 2 (n 0 ∷ n 0 ∷ []) refl

abbrev g_no_ray : List ℚ
g_no_ray = n 0 ∷ middle ∷ minus 1 ∷ minus 1 ∷ []

g_rays : IsRefutedWithin (ray_problem g) 2 g_no_ray
unfolding ◌+ℚ◌ ◌*ℚ◌ neg_ℚ ratio gcd_of whole reciprocal
g_rays = refuted_by (ray_problem g) (pivot 3 0 1 ∷ pivot 3 1 0 ∷ []) 3 2 g_no_ray refl

g_done : IsRefutedWithin (price_problem g (n 0 ∷ n 0 ∷ [])) 2 (n 1 ∷ minus 1 ∷ [])
unfolding ◌+ℚ◌ ◌*ℚ◌ neg_ℚ ratio gcd_of whole reciprocal
g_done = refuted_by (price_problem g (n 0 ∷ n 0 ∷ [])) (pivot 1 0 0 ∷ []) 1 2 (n 1 ∷ minus 1 ∷ []) refl

g_still : IsStationary g (n 0 ∷ n 0 ∷ [])
unfolding ◌+ℚ◌ ◌*ℚ◌ neg_ℚ ratio gcd_of whole reciprocal
g_still = stationary 2 g (n 0 ∷ n 0 ∷ []) (n 0 ∷ []) g_fits (record { symmetric = two_symmetric; nonneg = two_nonneg }) refl refl

g_point : n 0 ∷ [] ≡ point_of lower (n 0 ∷ n 0 ∷ [])
unfolding ◌+ℚ◌ ◌*ℚ◌ neg_ℚ ratio gcd_of whole reciprocal
g_point = sym (list_is (point_of lower (n 0 ∷ n 0 ∷ [])) (n 0 ∷ []) refl)

left : IsBest bowl lower 2 (n 0 ∷ []) (value bowl (n 0 ∷ [])) []
left =
    best_by_start bowl lower g 2 (n 0 ∷ n 0 ∷ []) (n 1 ∷ minus 1 ∷ []) (n 0 ∷ []) [] g_is (record { solved = g_solved; no_ray = (g_no_ray, g_rays); still = g_still; refuted = g_done }) g_point refl

-- ---- above 0

abbrev upper : Region
upper = region_of bowl (above 0 (pos 0) ∷ [])

abbrev h : Form
h = record { matrix = []; right = []; quadratic = (n 2 ∷ []) ∷ []; cost = n 1 ∷ []; constant = over 1 4 }

h_is : form_of bowl upper ≡ h
unfolding ◌+ℚ◌ ◌*ℚ◌ neg_ℚ ratio gcd_of whole reciprocal half
h_is = form_is (form_of bowl upper) h refl

h_fits : IsForm 1 h
unfolding ◌+ℚ◌ ◌*ℚ◌ neg_ℚ ratio gcd_of whole reciprocal
h_fits = form 1 h refl

h_solved : IsSolvedWithin (feasible_problem h) 2 (n 0 ∷ [])
unfolding ◌+ℚ◌ ◌*ℚ◌ neg_ℚ ratio gcd_of whole reciprocal
h_solved = solved_by (feasible_problem h) [] 2 (n 0 ∷ []) refl

abbrev h_no_ray : List ℚ
h_no_ray = fraction (neg_ℤ (pos 1)) 2 ∷ minus 1 ∷ []

h_rays : IsRefutedWithin (ray_problem h) 2 h_no_ray
unfolding ◌+ℚ◌ ◌*ℚ◌ neg_ℚ ratio gcd_of whole reciprocal
h_rays = refuted_by (ray_problem h) (pivot 1 0 0 ∷ []) 1 2 h_no_ray refl

h_done : IsRefutedWithin (price_problem h (n 0 ∷ [])) 2 (minus 1 ∷ [])
unfolding ◌+ℚ◌ ◌*ℚ◌ neg_ℚ ratio gcd_of whole reciprocal
h_done = refuted_by (price_problem h (n 0 ∷ [])) [] 0 2 (minus 1 ∷ []) refl

h_still : IsStationary h (n 0 ∷ [])
unfolding ◌+ℚ◌ ◌*ℚ◌ neg_ℚ ratio gcd_of whole reciprocal
h_still = stationary 1 h (n 0 ∷ []) [] h_fits one_convex refl refl

h_point : n 1 ∷ [] ≡ point_of upper (n 0 ∷ [])
unfolding ◌+ℚ◌ ◌*ℚ◌ neg_ℚ ratio gcd_of whole reciprocal
h_point = sym (list_is (point_of upper (n 0 ∷ [])) (n 1 ∷ []) refl)

right : IsBest bowl upper 2 (n 1 ∷ []) (value bowl (n 1 ∷ [])) []
right =
    best_by_start bowl upper h 2 (n 0 ∷ []) (minus 1 ∷ []) (n 1 ∷ []) [] h_is (record { solved = h_solved; no_ray = (h_no_ray, h_rays); still = h_still; refuted = h_done }) h_point refl

-- ---- values

value_of_left : value bowl (n 0 ∷ []) ≡ over 1 4
unfolding ◌+ℚ◌ ◌*ℚ◌ neg_ℚ ratio gcd_of whole reciprocal
value_of_left = same_fields_lem (value bowl (n 0 ∷ [])) (over 1 4) refl

value_of_right : value bowl (n 1 ∷ []) ≡ over 1 4
unfolding ◌+ℚ◌ ◌*ℚ◌ neg_ℚ ratio gcd_of whole reciprocal
value_of_right = same_fields_lem (value bowl (n 1 ∷ [])) (over 1 4) refl

not_above : (w : List ℚ) → IsKept bowl ((n 1 ∷ []) ∷ []) w → value bowl (n 0 ∷ []) ≤ℚ value bowl w
not_above w k =
    elim (head_or (n 1 ∷ []) [] w k.among) [
      | inl e ↦ subst (λ (w : List ℚ). value bowl (n 0 ∷ []) ≤ℚ value bowl w) e (le_of_eq (value_of_left ∙ sym value_of_right))
      | inr c ↦ nothing_in w c
    ]

-- ---- the regions aren't crossed

root_uncrossed : IsCrossedRegion (bounds bowl) → ⊥
root_uncrossed c = no_bounds_cross (Some (n 0)) None refl c

upper_uncrossed : IsCrossedRegion upper → ⊥
upper_uncrossed c = no_bounds_cross _ None refl c

lower_uncrossed : IsCrossedRegion lower → ⊥
lower_uncrossed c = by c.column c.crossed
  where
    same : (a b : ℚ) → Some a ≡ Some b → a ≡ b
    same a b e = cc

    by : (j : ℕ) → IsCrossedAt lower j → ⊥
    by zero c =
        lt_irrefl (n 0)
        (subst (λ (l : ℚ). n 0 <ℚ l) (sym (same (n 0) c.low c.has_low)) (subst (λ (u : ℚ). u <ℚ c.low) (sym (same (n 0) c.high c.has_high)) c.above))
    by (suc j) c = c

no_rounding : (j : ℕ) → ¬ (HasFractionalBound bowl (bounds bowl) j)
no_rounding j k = by j k.fractional
  where
    by : (j : ℕ) → IsFractional (bounds_at (bounds bowl) j).low ⊎ IsFractional (bounds_at (bounds bowl) j).high → ⊥
    by zero (inl e) = e (den-whole (pos 0))
    by zero (inr e) = e
    by (suc j) (inl e) = e
    by (suc j) (inr e) = e

abbrev tree : List Node
tree = Branch 0 (pos 0) ∷ Bound (n 0 ∷ []) [] ∷ Bound (n 1 ∷ []) [] ∷ []

pub found : IsFoundOf bowl (Convex bowl_squares) 2 1 (Optimal (n 0 ∷ []) (over 1 4) bowl_squares tree)
found =
    inr (inr (record {
      aim = ForBest;
      turns = [];
      nodes = tree;
      earned = record {
        convex = one_convex;
        rounding = record { turns_due = tt; ends = inr no_rounding };
        root = tt;
        taken = (
          record { uncrossed = root_uncrossed; point = middle ∷ []; carried = ([], root); branch = branch; below = λ x k. nothing_in x k.among },
          (
            record { uncrossed = lower_uncrossed; best = left; closed = inl ((λ e. den-whole (pos 0)), tt) },
            (record { uncrossed = upper_uncrossed; best = right; closed = inl ((λ e. den-whole (pos 1)), tt) }, refl),
          ),
        );
      };
      count = omega arith;
      incumbent = Some (n 0 ∷ []);
      best = record {
        before = [];
        later = (n 1 ∷ []) ∷ [];
        among = refl;
        whole = ((λ e. den-whole (pos 0)), tt);
        below_before = λ x k. nothing_in x k.among;
        not_above_later = not_above;
      };
      certificate = ap (λ v. Optimal (n 0 ∷ []) v bowl_squares tree) (sym value_of_left);
    }))
