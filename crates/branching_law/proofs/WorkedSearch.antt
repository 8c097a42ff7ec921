-- A worked program whose search branches once: 2x = 1 with x whole.
use Rattle.std.specs.Prelude.{◌≡◌, ◌⊎◌, ℕ, zero, suc, ◌<◌, pos, ◌≤ℤ◌, ◌<ℤ◌, List, [], ◌∷◌, length, map, Option, Some, None}
use Rattle.std.proofs.Common.{refl, sym, ◌∙◌, subst, arith, inl, inr}
use Rattle.std.proofs.lemmas.Int.{ints}
use Rattle.std.proofs.lemmas.List.Elements.{All-nil, All-cons}
use Rattle.algebra.proofs.Polynomial.{◌⊕◌, ◌⊗◌, ◌≼◌, lit}
use Rattle.algebra.proofs.Certificate.{prove, weight, ◌⇐◌}
use Rattle.rational.specs.Divisors.{gcd_of}
use Rattle.rational.specs.Rational.{ℚ, zero_ℚ, whole, ratio, fraction, neg_ℚ, reciprocal, ◌+ℚ◌, ◌*ℚ◌}
use Rattle.rational.specs.Order.{◌≤ℚ◌, ◌<ℚ◌}
use Rattle.rational.specs.Sums.{half}
use Rattle.rational.specs.Vectors.{IsSymmetric, IsSemidefinite, dot, rows_dot}
use Rattle.rational.proofs.Order.{ordered_rationals, lt_irrefl}
use Rattle.rational.proofs.Wholes.{den-whole}
use Rattle.program_law.specs.Region.{Region, IsCrossedAt, IsCrossedRegion, bounds_at}
use Rattle.program_law.specs.Program.{Program, bounds}
use Rattle.program_law.specs.Columns.{value}
use Rattle.certificate_law.specs.declared.Node.TheVariants.{Branch, Farkas}
use Rattle.certificate_law.specs.declared.Certificate.TheVariants.{Infeasible}
use Rattle.equational_law.specs.Form.{Form, form_of, point_of, multipliers_of}
use Rattle.equational_law.specs.Solutions.{IsForm}
use Rattle.face_descent_law.specs.Small.{IsStationary}
use Rattle.quad_solve_law.specs.Problems.{feasible_problem, ray_problem, price_problem, price_multipliers}
use Rattle.quad_solve_law.specs.Walk.{IsSolvedWithin, IsRefutedWithin, IsDecidedWithin, Start}
use Rattle.quad_solve_law.specs.Answer.{IsBest, IsEmpty}
use Rattle.quad_solve_law.specs.Worked.{n, minus}
use Rattle.quad_solve_law.proofs.Tested.{pivot, solved_by, refuted_by, list_is, form, form_is, symmetric, stationary}
use Rattle.branching_law.specs.Paths.{region_of, below, above}
use Rattle.branching_law.specs.Rounding.{IsFractional, HasFractionalBound}
use Rattle.branching_law.specs.Nodes.{ForBest, IsBranch}
use Rattle.branching_law.specs.Found.{Convex, IsFoundOf}
use Rattle.branching_law.specs.Worked.{odd}
use Rattle.branching_law.proofs.Incumbents.{no_incumbent, nothing_in}

-- ---- the root

abbrev f : Form
f = record { matrix = (n 2 ∷ []) ∷ []; right = n 1 ∷ []; quadratic = (n 0 ∷ []) ∷ []; cost = n 0 ∷ []; constant = n 0 }

f_is : form_of odd (bounds odd) ≡ f
unfolding ◌+ℚ◌ ◌*ℚ◌ neg_ℚ ratio gcd_of whole reciprocal half
f_is = form_is (form_of odd (bounds odd)) f refl

fits : IsForm 1 f
unfolding ◌+ℚ◌ ◌*ℚ◌ neg_ℚ ratio gcd_of whole reciprocal
fits = form 1 f refl

nonneg : (v : List ℚ) → length v ≡ 1 → zero_ℚ ≤ℚ dot v (rows_dot ((n 0 ∷ []) ∷ []) v)
nonneg [] h = absurd (omega arith)
nonneg (a ∷ []) h = prove ordered_rationals (a ∷ []) (λ a. lit 0 ≼ a ⊗ (lit 0 ⊗ a ⊕ lit 0) ⊕ lit 0 ⇐ weight 0) refl
nonneg (a ∷ b ∷ v) h = absurd (omega arith)

flat : IsSymmetric 1 ((n 0 ∷ []) ∷ [])
unfolding ratio gcd_of whole
flat = symmetric 1 ((n 0 ∷ []) ∷ []) refl

convex : IsSemidefinite 1 ((n 0 ∷ []) ∷ [])
convex = record { symmetric = flat; nonneg = nonneg }

abbrev middle : ℚ
middle = fraction (pos 1) 2

feasible : IsSolvedWithin (feasible_problem f) 1 (middle ∷ [])
unfolding ◌+ℚ◌ ◌*ℚ◌ neg_ℚ ratio gcd_of whole reciprocal
feasible = solved_by (feasible_problem f) (pivot 0 0 0 ∷ []) 1 (middle ∷ []) refl

rays : IsRefutedWithin (ray_problem f) 1 (n 0 ∷ minus 1 ∷ minus 1 ∷ [])
unfolding ◌+ℚ◌ ◌*ℚ◌ neg_ℚ ratio gcd_of whole reciprocal
rays = refuted_by (ray_problem f) (pivot 2 0 0 ∷ []) 2 1 (n 0 ∷ minus 1 ∷ minus 1 ∷ []) refl

done : IsRefutedWithin (price_problem f (middle ∷ [])) 1 (n 0 ∷ minus 1 ∷ [])
unfolding ◌+ℚ◌ ◌*ℚ◌ neg_ℚ ratio gcd_of whole reciprocal
done = refuted_by (price_problem f (middle ∷ [])) (pivot 1 0 0 ∷ []) 1 1 (n 0 ∷ minus 1 ∷ []) refl

still : IsStationary f (middle ∷ [])
unfolding ◌+ℚ◌ ◌*ℚ◌ neg_ℚ ratio gcd_of whole reciprocal
still = stationary 1 f (middle ∷ []) (n 0 ∷ []) fits convex refl refl

-- a form whose walk ends where it starts
pub record IsStill (f : Form) (budget : ℕ) (start farkas : List ℚ) : Type 0 where
  pub solved : IsSolvedWithin (feasible_problem f) budget start
  pub no_ray : (w : List ℚ) × IsRefutedWithin (ray_problem f) budget w
  pub still : IsStationary f start
  pub refuted : IsRefutedWithin (price_problem f start) budget farkas

pub best_by_start : (p : Program) (region : Region) (f : Form) (budget : ℕ) (start farkas x y : List ℚ) → form_of p region ≡ f → IsStill f budget start farkas → x ≡ point_of region start
    → y ≡ multipliers_of p region (price_multipliers f farkas) → IsBest p region budget x (value p x) y
best_by_start p region f budget start farkas x y e h at m =
    by (subst (λ (f : Form). IsStill f budget start farkas) (sym e) h) (subst (λ (f : Form). y ≡ multipliers_of p region (price_multipliers f farkas)) (sym e) m)
  where
    by : IsStill (form_of p region) budget start farkas → y ≡ multipliers_of p region (price_multipliers (form_of p region) farkas) → IsBest p region budget x (value p x) y
    by h m = record {
      start = start;
      solved = h.solved;
      no_ray = h.no_ray;
      newest = record { point = start; way = Start };
      earlier = [];
      walk = refl;
      stationary = h.still;
      farkas = farkas;
      refuted = h.refuted;
      prices = All-cons (λ v. IsStationary (form_of p region) v.point → IsDecidedWithin (price_problem (form_of p region) v.point) budget) (record { point = start; way = Start }) []
          (λ st. inr (farkas, h.refuted)) (All-nil (λ v. IsStationary (form_of p region) v.point → IsDecidedWithin (price_problem (form_of p region) v.point) budget));
      count = omega arith;
      point = at;
      value = refl;
      multipliers = m;
    }

point_is : middle ∷ [] ≡ point_of (bounds odd) (middle ∷ [])
unfolding ◌+ℚ◌ ◌*ℚ◌ neg_ℚ ratio gcd_of whole reciprocal
point_is = sym (list_is (point_of (bounds odd) (middle ∷ [])) (middle ∷ []) refl)

multipliers_are : n 0 ∷ [] ≡ multipliers_of odd (bounds odd) (price_multipliers f (n 0 ∷ minus 1 ∷ []))
unfolding ◌+ℚ◌ ◌*ℚ◌ neg_ℚ ratio gcd_of whole reciprocal
multipliers_are = sym (list_is (multipliers_of odd (bounds odd) (price_multipliers f (n 0 ∷ minus 1 ∷ []))) (n 0 ∷ []) refl)

root : IsBest odd (bounds odd) 1 (middle ∷ []) (value odd (middle ∷ [])) (n 0 ∷ [])
root =
    best_by_start odd (bounds odd) f 1 (middle ∷ []) (n 0 ∷ minus 1 ∷ []) (middle ∷ []) (n 0 ∷ []) f_is
    (record { solved = feasible; no_ray = (n 0 ∷ minus 1 ∷ minus 1 ∷ [], rays); still = still; refuted = done }) point_is multipliers_are

-- ---- the branch

pub two_is_not_one : (d : ℕ) → d ≡ 2 → ¬ (d ≡ 1)
two_is_not_one d h e = omega arith

pub zero_most : pos 0 ≤ℤ pos 1
zero_most = omega (arith, ints)

pub one_less : pos 1 <ℤ pos 2
one_less = omega (arith, ints)

pub nothing_before : (i : ℕ) → i < 0 → ⊥
nothing_before i h = omega arith

branch : IsBranch odd (middle ∷ []) 0 (pos 0)
unfolding ratio gcd_of whole
branch = record {
  first = record { holds = record { marked = refl; fractional = two_is_not_one 2 refl }; not_before = λ i h k. nothing_before i h };
  floor = record { below = zero_most; next_above = one_less };
}

-- ---- below 0

abbrev g : Form
g = record { matrix = (n 2 ∷ n 0 ∷ []) ∷ (n 1 ∷ n 1 ∷ []) ∷ []; right = n 1 ∷ n 0 ∷ []; quadratic = (n 0 ∷ n 0 ∷ []) ∷ (n 0 ∷ n 0 ∷ []) ∷ []; cost = n 0 ∷ n 0 ∷ []; constant = n 0 }

abbrev lower : Region
lower = region_of odd (below 0 (pos 0) ∷ [])

g_is : form_of odd lower ≡ g
unfolding ◌+ℚ◌ ◌*ℚ◌ neg_ℚ ratio gcd_of whole reciprocal half
g_is = form_is (form_of odd lower) g refl

lower_refuted : IsRefutedWithin (feasible_problem g) 1 (minus 1 ∷ n 2 ∷ [])
unfolding ◌+ℚ◌ ◌*ℚ◌ neg_ℚ ratio gcd_of whole reciprocal
lower_refuted = refuted_by (feasible_problem g) (pivot 0 0 1 ∷ []) 0 1 (minus 1 ∷ n 2 ∷ []) refl

lower_multipliers : n 1 ∷ [] ≡ multipliers_of odd lower (map neg_ℚ (minus 1 ∷ n 2 ∷ []))
unfolding ◌+ℚ◌ ◌*ℚ◌ neg_ℚ ratio gcd_of whole reciprocal
lower_multipliers = sym (list_is (multipliers_of odd lower (map neg_ℚ (minus 1 ∷ n 2 ∷ []))) (n 1 ∷ []) refl)

lower_empty : IsEmpty odd lower 1 (n 1 ∷ [])
lower_empty = record { farkas = minus 1 ∷ n 2 ∷ []; refuted = subst (λ (f : Form). IsRefutedWithin (feasible_problem f) 1 (minus 1 ∷ n 2 ∷ [])) (sym g_is) lower_refuted; multipliers = lower_multipliers }

-- ---- above 0

abbrev h : Form
h = record { matrix = (minus 2 ∷ []) ∷ []; right = n 1 ∷ []; quadratic = (n 0 ∷ []) ∷ []; cost = n 0 ∷ []; constant = n 0 }

abbrev upper : Region
upper = region_of odd (above 0 (pos 0) ∷ [])

h_is : form_of odd upper ≡ h
unfolding ◌+ℚ◌ ◌*ℚ◌ neg_ℚ ratio gcd_of whole reciprocal half
h_is = form_is (form_of odd upper) h refl

upper_refuted : IsRefutedWithin (feasible_problem h) 1 (minus 1 ∷ [])
unfolding ◌+ℚ◌ ◌*ℚ◌ neg_ℚ ratio gcd_of whole reciprocal
upper_refuted = refuted_by (feasible_problem h) [] 0 1 (minus 1 ∷ []) refl

upper_multipliers : minus 1 ∷ [] ≡ multipliers_of odd upper (map neg_ℚ (minus 1 ∷ []))
unfolding ◌+ℚ◌ ◌*ℚ◌ neg_ℚ ratio gcd_of whole reciprocal
upper_multipliers = sym (list_is (multipliers_of odd upper (map neg_ℚ (minus 1 ∷ []))) (minus 1 ∷ []) refl)

upper_empty : IsEmpty odd upper 1 (minus 1 ∷ [])
upper_empty = record { farkas = minus 1 ∷ []; refuted = subst (λ (f : Form). IsRefutedWithin (feasible_problem f) 1 (minus 1 ∷ [])) (sym h_is) upper_refuted; multipliers = upper_multipliers }

-- ---- the regions aren't crossed

pub no_bounds_cross : (l u : Option ℚ) → u ≡ None → IsCrossedRegion (record { low = l; high = u } ∷ []) → ⊥
no_bounds_cross l u e c = by c.column c.crossed
  where
    bad : (v : ℚ) → None ≡ Some v → ⊥
    bad v e = cc

    by : (j : ℕ) → IsCrossedAt (record { low = l; high = u } ∷ []) j → ⊥
    by zero c = bad c.high (sym e ∙ c.has_high)
    by (suc j) c = c

root_uncrossed : IsCrossedRegion (bounds odd) → ⊥
root_uncrossed c = no_bounds_cross (Some (n 0)) None refl c

upper_uncrossed : IsCrossedRegion upper → ⊥
upper_uncrossed c = no_bounds_cross _ None refl c

lower_uncrossed : IsCrossedRegion lower → ⊥
lower_uncrossed c = by c.column c.crossed
  where
    same : (a b : ℚ) → Some a ≡ Some b → a ≡ b
    same a b e = cc

    by : (j : ℕ) → IsCrossedAt lower j → ⊥
    by zero c =
        lt_irrefl (n 0)
        (subst (λ (l : ℚ). n 0 <ℚ l) (sym (same (n 0) c.low c.has_low)) (subst (λ (u : ℚ). u <ℚ c.low) (sym (same (n 0) c.high c.has_high)) c.above))
    by (suc j) c = c

-- ---- the search

no_rounding : (j : ℕ) → ¬ (HasFractionalBound odd (bounds odd) j)
no_rounding j k = by j k.fractional
  where
    by : (j : ℕ) → IsFractional (bounds_at (bounds odd) j).low ⊎ IsFractional (bounds_at (bounds odd) j).high → ⊥
    by zero (inl e) = e (den-whole (pos 0))
    by zero (inr e) = e
    by (suc j) (inl e) = e
    by (suc j) (inr e) = e

pub found : IsFoundOf odd (Convex []) 1 1 (Infeasible (Branch 0 (pos 0) ∷ Farkas (n 1 ∷ []) ∷ Farkas (minus 1 ∷ []) ∷ []))
found =
    inr (inr (record {
      aim = ForBest;
      turns = [];
      nodes = Branch 0 (pos 0) ∷ Farkas (n 1 ∷ []) ∷ Farkas (minus 1 ∷ []) ∷ [];
      earned = record {
        convex = convex;
        rounding = record { turns_due = tt; ends = inr no_rounding };
        root = tt;
        taken = (
          record { uncrossed = root_uncrossed; point = middle ∷ []; carried = (n 0 ∷ [], root); branch = branch; below = λ x k. nothing_in x k.among },
          (record { uncrossed = lower_uncrossed; empty = lower_empty }, (record { uncrossed = upper_uncrossed; empty = upper_empty }, refl)),
        );
      };
      count = omega arith;
      incumbent = None;
      best = no_incumbent odd;
      certificate = refl;
    }))
