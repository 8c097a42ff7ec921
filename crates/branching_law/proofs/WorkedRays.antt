-- Worked programs that fall without end: with no whole point, with one at once, and without marks.
use Rattle.std.specs.Prelude.{◌≡◌, ◌⊎◌, ℕ, zero, suc, pos, List, [], ◌∷◌, length, map, Some, None, true, false}
use Rattle.std.proofs.Common.{refl, sym, subst, arith, inl, inr}
use Rattle.algebra.proofs.Polynomial.{◌⊕◌, ◌⊗◌, ◌≼◌, lit}
use Rattle.algebra.proofs.Certificate.{prove, weight, ◌⇐◌}
use Rattle.rational.specs.Divisors.{gcd_of}
use Rattle.rational.specs.Rational.{ℚ, zero_ℚ, whole, ratio, fraction, neg_ℚ, reciprocal, ◌+ℚ◌, ◌*ℚ◌}
use Rattle.rational.specs.Order.{◌≤ℚ◌, ◌<ℚ◌}
use Rattle.rational.specs.Sums.{half}
use Rattle.rational.specs.Vectors.{IsSymmetric, IsSemidefinite, dot, rows_dot}
use Rattle.rational.proofs.Order.{ordered_rationals, le_refl}
use Rattle.rational.proofs.OrderLaws.{not-le_of_lt}
use Rattle.rational.proofs.Wholes.{den-whole}
use Rattle.program_law.proofs.Numbers.{le_tested}
use Rattle.program_law.specs.Region.{Region, IsCrossedAt, IsCrossedRegion, bounds_at}
use Rattle.program_law.specs.Program.{Program, bounds}
use Rattle.certificate_law.specs.declared.Node.TheVariants.{Branch, Farkas}
use Rattle.certificate_law.specs.declared.Certificate.TheVariants.{Infeasible, Unbounded}
use Rattle.equational_law.specs.Form.{Form, form_of, point_of, direction_of, multipliers_of}
use Rattle.quad_solve_law.specs.Problems.{feasible_problem, ray_problem}
use Rattle.quad_solve_law.specs.Walk.{IsSolvedWithin, IsRefutedWithin}
use Rattle.quad_solve_law.specs.Answer.{IsFound, IsFalling, IsEmpty}
use Rattle.quad_solve_law.specs.Worked.{n, minus, slope}
use Rattle.quad_solve_law.proofs.Tested.{pivot, solved_by, refuted_by, list_is, form_is, symmetric}
use Rattle.branching_law.specs.Paths.{region_of, below, above}
use Rattle.branching_law.specs.Rounding.{IsMarked, IsMarkedAt, IsFractional, HasFractionalBound}
use Rattle.branching_law.specs.Nodes.{ForPoint, IsBranch}
use Rattle.branching_law.specs.Found.{Convex, IsFoundOf}
use Rattle.branching_law.specs.Worked.{tilted, sliding}
use Rattle.branching_law.proofs.Incumbents.{no_incumbent, nothing_in}
use Rattle.branching_law.proofs.WorkedSearch.{two_is_not_one, zero_most, one_less, nothing_before, no_bounds_cross}

abbrev middle : ℚ
middle = fraction (pos 1) 2

abbrev zeros_2 : List (List ℚ)
zeros_2 = (n 0 ∷ n 0 ∷ []) ∷ (n 0 ∷ n 0 ∷ []) ∷ []

abbrev zeros_3 : List (List ℚ)
zeros_3 = (n 0 ∷ n 0 ∷ n 0 ∷ []) ∷ (n 0 ∷ n 0 ∷ n 0 ∷ []) ∷ (n 0 ∷ n 0 ∷ n 0 ∷ []) ∷ []

nonneg : (v : List ℚ) → length v ≡ 2 → zero_ℚ ≤ℚ dot v (rows_dot zeros_2 v)
nonneg [] h = absurd (omega arith)
nonneg (a ∷ []) h = absurd (omega arith)
nonneg (a ∷ b ∷ []) h =
    prove ordered_rationals (a ∷ b ∷ []) (λ a b. lit 0 ≼ a ⊗ (lit 0 ⊗ a ⊕ (lit 0 ⊗ b ⊕ lit 0)) ⊕ (b ⊗ (lit 0 ⊗ a ⊕ (lit 0 ⊗ b ⊕ lit 0)) ⊕ lit 0) ⇐ weight 0) refl
nonneg (a ∷ b ∷ c ∷ v) h = absurd (omega arith)

flat : IsSymmetric 2 zeros_2
unfolding ratio gcd_of whole
flat = symmetric 2 zeros_2 refl

convex : IsSemidefinite 2 zeros_2
convex = record { symmetric = flat; nonneg = nonneg }

-- ---- regions of two columns that aren't crossed

same_some : (a b : ℚ) → Some a ≡ Some b → a ≡ b
same_some a b e = cc

two_uncrossed : (l u : ℚ) → l ≤ℚ u → IsCrossedRegion (record { low = Some l; high = Some u } ∷ record { low = Some (n 0); high = None } ∷ []) → ⊥
two_uncrossed l u h c = by c.column c.crossed
  where
    bad : (v : ℚ) → None ≡ Some v → ⊥
    bad v e = cc

    by : (j : ℕ) → IsCrossedAt (record { low = Some l; high = Some u } ∷ record { low = Some (n 0); high = None } ∷ []) j → ⊥
    by zero c = not-le_of_lt (subst (λ (a : ℚ). u <ℚ a) (sym (same_some l c.low c.has_low)) (subst (λ (b : ℚ). b <ℚ c.low) (sym (same_some u c.high c.has_high)) c.above)) h
    by (suc zero) c = bad c.high c.has_high
    by (suc (suc j)) c = c

zero_one : n 0 ≤ℚ n 1
unfolding ratio gcd_of whole
zero_one = le_tested (n 0) (n 1) refl

abbrev box : Region
box = record { low = Some (n 0); high = Some (n 1) } ∷ record { low = Some (n 0); high = None } ∷ []

whole_bounds : (p : Program) → bounds p ≡ box → (j : ℕ) → ¬ (HasFractionalBound p (bounds p) j)
whole_bounds p e j k =
    by j (subst (λ (r : Region). IsFractional (bounds_at r j).low ⊎ IsFractional (bounds_at r j).high) e k.fractional)
  where
    by : (j : ℕ) → IsFractional (bounds_at box j).low ⊎ IsFractional (bounds_at box j).high → ⊥
    by zero (inl e) = e (den-whole (pos 0))
    by zero (inr e) = e (den-whole (pos 1))
    by (suc zero) (inl e) = e (den-whole (pos 0))
    by (suc zero) (inr e) = e
    by (suc (suc j)) (inl e) = e
    by (suc (suc j)) (inr e) = e

-- ---- no whole point

abbrev f : Form
f = record { matrix = (n 2 ∷ n 0 ∷ n 0 ∷ []) ∷ (n 1 ∷ n 0 ∷ n 1 ∷ []) ∷ []; right = n 1 ∷ n 1 ∷ []; quadratic = zeros_3; cost = n 0 ∷ minus 1 ∷ n 0 ∷ []; constant = n 0 }

f_is : form_of tilted (bounds tilted) ≡ f
unfolding ◌+ℚ◌ ◌*ℚ◌ neg_ℚ ratio gcd_of whole reciprocal half
f_is = form_is (form_of tilted (bounds tilted)) f refl

f_solved : IsSolvedWithin (feasible_problem f) 2 (middle ∷ n 0 ∷ middle ∷ [])
unfolding ◌+ℚ◌ ◌*ℚ◌ neg_ℚ ratio gcd_of whole reciprocal
f_solved = solved_by (feasible_problem f) (pivot 0 0 0 ∷ pivot 1 2 1 ∷ []) 2 (middle ∷ n 0 ∷ middle ∷ []) refl

f_ray : IsSolvedWithin (ray_problem f) 2 (n 0 ∷ n 1 ∷ n 0 ∷ [])
unfolding ◌+ℚ◌ ◌*ℚ◌ neg_ℚ ratio gcd_of whole reciprocal
f_ray = solved_by (ray_problem f) (pivot 5 0 1 ∷ pivot 5 1 5 ∷ []) 2 (n 0 ∷ n 1 ∷ n 0 ∷ []) refl

f_point : middle ∷ n 0 ∷ [] ≡ point_of (bounds tilted) (middle ∷ n 0 ∷ middle ∷ [])
unfolding ◌+ℚ◌ ◌*ℚ◌ neg_ℚ ratio gcd_of whole reciprocal
f_point = sym (list_is (point_of (bounds tilted) (middle ∷ n 0 ∷ middle ∷ [])) (middle ∷ n 0 ∷ []) refl)

f_direction : n 0 ∷ n 1 ∷ [] ≡ direction_of (bounds tilted) (n 0 ∷ n 1 ∷ n 0 ∷ [])
unfolding ◌+ℚ◌ ◌*ℚ◌ neg_ℚ ratio gcd_of whole reciprocal
f_direction = sym (list_is (direction_of (bounds tilted) (n 0 ∷ n 1 ∷ n 0 ∷ [])) (n 0 ∷ n 1 ∷ []) refl)

f_found : IsFound tilted (bounds tilted) 2 (middle ∷ n 0 ∷ [])
f_found = record { solution = middle ∷ n 0 ∷ middle ∷ []; solved = subst (λ (f : Form). IsSolvedWithin (feasible_problem f) 2 (middle ∷ n 0 ∷ middle ∷ [])) (sym f_is) f_solved; point = f_point }

f_falling : IsFalling tilted (bounds tilted) 2 (middle ∷ n 0 ∷ []) (n 0 ∷ n 1 ∷ [])
f_falling = record {
  found = f_found;
  ray = n 0 ∷ n 1 ∷ n 0 ∷ [];
  solved = subst (λ (f : Form). IsSolvedWithin (ray_problem f) 2 (n 0 ∷ n 1 ∷ n 0 ∷ [])) (sym f_is) f_ray;
  direction = f_direction;
}

branch : IsBranch tilted (middle ∷ n 0 ∷ []) 0 (pos 0)
unfolding ratio gcd_of whole
branch = record {
  first = record { holds = record { marked = refl; fractional = two_is_not_one 2 refl }; not_before = λ i h k. nothing_before i h };
  floor = record { below = zero_most; next_above = one_less };
}

abbrev lower : Region
lower = region_of tilted (below 0 (pos 0) ∷ [])

lower_is : lower ≡ record { low = Some (n 0); high = Some (n 0) } ∷ record { low = Some (n 0); high = None } ∷ []
unfolding ratio gcd_of whole
lower_is = refl

abbrev g : Form
g = record { matrix = (n 2 ∷ n 0 ∷ n 0 ∷ []) ∷ (n 1 ∷ n 0 ∷ n 1 ∷ []) ∷ []; right = n 1 ∷ n 0 ∷ []; quadratic = zeros_3; cost = n 0 ∷ minus 1 ∷ n 0 ∷ []; constant = n 0 }

g_is : form_of tilted lower ≡ g
unfolding ◌+ℚ◌ ◌*ℚ◌ neg_ℚ ratio gcd_of whole reciprocal half
g_is = form_is (form_of tilted lower) g refl

g_refuted : IsRefutedWithin (feasible_problem g) 2 (minus 1 ∷ n 2 ∷ [])
unfolding ◌+ℚ◌ ◌*ℚ◌ neg_ℚ ratio gcd_of whole reciprocal
g_refuted = refuted_by (feasible_problem g) (pivot 0 0 1 ∷ []) 0 2 (minus 1 ∷ n 2 ∷ []) refl

g_multipliers : n 1 ∷ [] ≡ multipliers_of tilted lower (map neg_ℚ (minus 1 ∷ n 2 ∷ []))
unfolding ◌+ℚ◌ ◌*ℚ◌ neg_ℚ ratio gcd_of whole reciprocal
g_multipliers = sym (list_is (multipliers_of tilted lower (map neg_ℚ (minus 1 ∷ n 2 ∷ []))) (n 1 ∷ []) refl)

lower_empty : IsEmpty tilted lower 2 (n 1 ∷ [])
lower_empty = record { farkas = minus 1 ∷ n 2 ∷ []; refuted = subst (λ (f : Form). IsRefutedWithin (feasible_problem f) 2 (minus 1 ∷ n 2 ∷ [])) (sym g_is) g_refuted; multipliers = g_multipliers }

abbrev upper : Region
upper = region_of tilted (above 0 (pos 0) ∷ [])

upper_is : upper ≡ record { low = Some (n 1); high = Some (n 1) } ∷ record { low = Some (n 0); high = None } ∷ []
unfolding ratio gcd_of whole
upper_is = refl

abbrev h : Form
h = record { matrix = (minus 2 ∷ n 0 ∷ n 0 ∷ []) ∷ (n 1 ∷ n 0 ∷ n 1 ∷ []) ∷ []; right = n 1 ∷ n 0 ∷ []; quadratic = zeros_3; cost = n 0 ∷ minus 1 ∷ n 0 ∷ []; constant = n 0 }

h_is : form_of tilted upper ≡ h
unfolding ◌+ℚ◌ ◌*ℚ◌ neg_ℚ ratio gcd_of whole reciprocal half
h_is = form_is (form_of tilted upper) h refl

h_refuted : IsRefutedWithin (feasible_problem h) 2 (minus 1 ∷ n 0 ∷ [])
unfolding ◌+ℚ◌ ◌*ℚ◌ neg_ℚ ratio gcd_of whole reciprocal
h_refuted = refuted_by (feasible_problem h) (pivot 0 2 1 ∷ []) 0 2 (minus 1 ∷ n 0 ∷ []) refl

h_multipliers : minus 1 ∷ [] ≡ multipliers_of tilted upper (map neg_ℚ (minus 1 ∷ n 0 ∷ []))
unfolding ◌+ℚ◌ ◌*ℚ◌ neg_ℚ ratio gcd_of whole reciprocal
h_multipliers = sym (list_is (multipliers_of tilted upper (map neg_ℚ (minus 1 ∷ n 0 ∷ []))) (minus 1 ∷ []) refl)

upper_empty : IsEmpty tilted upper 2 (minus 1 ∷ [])
upper_empty = record { farkas = minus 1 ∷ n 0 ∷ []; refuted = subst (λ (f : Form). IsRefutedWithin (feasible_problem f) 2 (minus 1 ∷ n 0 ∷ [])) (sym h_is) h_refuted; multipliers = h_multipliers }

one_zero : (q : ℚ) → q ≤ℚ q
one_zero q = le_refl q

lower_uncrossed : IsCrossedRegion lower → ⊥
lower_uncrossed c = two_uncrossed (n 0) (n 0) (one_zero (n 0)) (subst (λ (r : Region). IsCrossedRegion r) lower_is c)

upper_uncrossed : IsCrossedRegion upper → ⊥
upper_uncrossed c = two_uncrossed (n 1) (n 1) (one_zero (n 1)) (subst (λ (r : Region). IsCrossedRegion r) upper_is c)

tilted_uncrossed : IsCrossedRegion (bounds tilted) → ⊥
tilted_uncrossed c = two_uncrossed (n 0) (n 1) zero_one c

pub found_tilted : IsFoundOf tilted (Convex []) 2 1 (Infeasible (Branch 0 (pos 0) ∷ Farkas (n 1 ∷ []) ∷ Farkas (minus 1 ∷ []) ∷ []))
found_tilted =
    inr (inr (record {
      aim = ForPoint;
      turns = [];
      nodes = Branch 0 (pos 0) ∷ Farkas (n 1 ∷ []) ∷ Farkas (minus 1 ∷ []) ∷ [];
      earned = record {
        convex = convex;
        rounding = record { turns_due = tt; ends = inr (whole_bounds tilted refl) };
        root = ((0, refl), tilted_uncrossed, (middle ∷ n 0 ∷ [], n 0 ∷ n 1 ∷ [], f_falling));
        taken = (
          record { uncrossed = tilted_uncrossed; point = middle ∷ n 0 ∷ []; carried = f_found; branch = branch; below = λ x k. nothing_in x k.among },
          (record { uncrossed = lower_uncrossed; empty = lower_empty }, (record { uncrossed = upper_uncrossed; empty = upper_empty }, refl)),
        );
      };
      count = omega arith;
      incumbent = None;
      best = no_incumbent tilted;
      certificate = refl;
    }))

-- ---- a whole point at once

abbrev s : Form
s = record { matrix = (n 1 ∷ n 0 ∷ n 1 ∷ []) ∷ []; right = n 1 ∷ []; quadratic = zeros_3; cost = n 0 ∷ minus 1 ∷ n 0 ∷ []; constant = n 0 }

s_is : form_of sliding (bounds sliding) ≡ s
unfolding ◌+ℚ◌ ◌*ℚ◌ neg_ℚ ratio gcd_of whole reciprocal half
s_is = form_is (form_of sliding (bounds sliding)) s refl

s_solved : IsSolvedWithin (feasible_problem s) 2 (n 1 ∷ n 0 ∷ n 0 ∷ [])
unfolding ◌+ℚ◌ ◌*ℚ◌ neg_ℚ ratio gcd_of whole reciprocal
s_solved = solved_by (feasible_problem s) (pivot 0 0 0 ∷ []) 2 (n 1 ∷ n 0 ∷ n 0 ∷ []) refl

s_ray : IsSolvedWithin (ray_problem s) 2 (n 0 ∷ n 1 ∷ n 0 ∷ [])
unfolding ◌+ℚ◌ ◌*ℚ◌ neg_ℚ ratio gcd_of whole reciprocal
s_ray = solved_by (ray_problem s) (pivot 4 0 0 ∷ pivot 4 1 4 ∷ []) 2 (n 0 ∷ n 1 ∷ n 0 ∷ []) refl

s_point : n 1 ∷ n 0 ∷ [] ≡ point_of (bounds sliding) (n 1 ∷ n 0 ∷ n 0 ∷ [])
unfolding ◌+ℚ◌ ◌*ℚ◌ neg_ℚ ratio gcd_of whole reciprocal
s_point = sym (list_is (point_of (bounds sliding) (n 1 ∷ n 0 ∷ n 0 ∷ [])) (n 1 ∷ n 0 ∷ []) refl)

s_direction : n 0 ∷ n 1 ∷ [] ≡ direction_of (bounds sliding) (n 0 ∷ n 1 ∷ n 0 ∷ [])
unfolding ◌+ℚ◌ ◌*ℚ◌ neg_ℚ ratio gcd_of whole reciprocal
s_direction = sym (list_is (direction_of (bounds sliding) (n 0 ∷ n 1 ∷ n 0 ∷ [])) (n 0 ∷ n 1 ∷ []) refl)

s_found : IsFound sliding (bounds sliding) 2 (n 1 ∷ n 0 ∷ [])
s_found = record { solution = n 1 ∷ n 0 ∷ n 0 ∷ []; solved = subst (λ (f : Form). IsSolvedWithin (feasible_problem f) 2 (n 1 ∷ n 0 ∷ n 0 ∷ [])) (sym s_is) s_solved; point = s_point }

s_falling : IsFalling sliding (bounds sliding) 2 (n 1 ∷ n 0 ∷ []) (n 0 ∷ n 1 ∷ [])
s_falling = record {
  found = s_found;
  ray = n 0 ∷ n 1 ∷ n 0 ∷ [];
  solved = subst (λ (f : Form). IsSolvedWithin (ray_problem f) 2 (n 0 ∷ n 1 ∷ n 0 ∷ [])) (sym s_is) s_ray;
  direction = s_direction;
}

sliding_uncrossed : IsCrossedRegion (bounds sliding) → ⊥
sliding_uncrossed c = two_uncrossed (n 0) (n 1) zero_one c

pub found_sliding : IsFoundOf sliding (Convex []) 2 1 (Unbounded (n 1 ∷ n 0 ∷ []) (n 0 ∷ n 1 ∷ []) [])
found_sliding =
    inr (inl (record {
      turns = [];
      nodes = [];
      path = [];
      open_paths = [];
      earned = record {
        convex = convex;
        rounding = record { turns_due = tt; ends = inr (whole_bounds sliding refl) };
        root = ((0, refl), sliding_uncrossed, (n 1 ∷ n 0 ∷ [], n 0 ∷ n 1 ∷ [], s_falling));
        taken = refl;
      };
      count = omega arith;
      uncrossed = sliding_uncrossed;
      point = n 1 ∷ n 0 ∷ [];
      found = s_found;
      whole = ((λ e. den-whole (pos 1)), ((λ e. den-whole (pos 0)), tt));
      start = n 1 ∷ n 0 ∷ [];
      ray = n 0 ∷ n 1 ∷ [];
      falling = s_falling;
      certificate = refl;
    }))

-- ---- without marks

abbrev k : Form
k = record { matrix = []; right = []; quadratic = (n 0 ∷ []) ∷ []; cost = minus 1 ∷ []; constant = n 0 }

k_is : form_of slope (bounds slope) ≡ k
unfolding ◌+ℚ◌ ◌*ℚ◌ neg_ℚ ratio gcd_of whole reciprocal half
k_is = form_is (form_of slope (bounds slope)) k refl

k_solved : IsSolvedWithin (feasible_problem k) 1 (n 0 ∷ [])
unfolding ◌+ℚ◌ ◌*ℚ◌ neg_ℚ ratio gcd_of whole reciprocal
k_solved = solved_by (feasible_problem k) [] 1 (n 0 ∷ []) refl

k_ray : IsSolvedWithin (ray_problem k) 1 (n 1 ∷ [])
unfolding ◌+ℚ◌ ◌*ℚ◌ neg_ℚ ratio gcd_of whole reciprocal
k_ray = solved_by (ray_problem k) (pivot 1 0 1 ∷ []) 1 (n 1 ∷ []) refl

k_point : n 0 ∷ [] ≡ point_of (bounds slope) (n 0 ∷ [])
unfolding ◌+ℚ◌ ◌*ℚ◌ neg_ℚ ratio gcd_of whole reciprocal
k_point = sym (list_is (point_of (bounds slope) (n 0 ∷ [])) (n 0 ∷ []) refl)

k_direction : n 1 ∷ [] ≡ direction_of (bounds slope) (n 1 ∷ [])
unfolding ◌+ℚ◌ ◌*ℚ◌ neg_ℚ ratio gcd_of whole reciprocal
k_direction = sym (list_is (direction_of (bounds slope) (n 1 ∷ [])) (n 1 ∷ []) refl)

unmarked : ¬ (IsMarked slope)
unmarked m = by m.0 m.1
  where
    bad : false ≡ true → ⊥
    bad e = cc

    by : (j : ℕ) → IsMarkedAt slope j → ⊥
    by zero e = bad e
    by (suc j) e = bad e

pub found_slope : IsFoundOf slope (Convex []) 1 1 (Unbounded (n 0 ∷ []) (n 1 ∷ []) [])
found_slope =
    inl (record {
      unmarked = unmarked;
      uncrossed = λ c. no_bounds_cross (Some (n 0)) None refl c;
      point = n 0 ∷ [];
      ray = n 1 ∷ [];
      falling = record {
        found = record { solution = n 0 ∷ []; solved = subst (λ (f : Form). IsSolvedWithin (feasible_problem f) 1 (n 0 ∷ [])) (sym k_is) k_solved; point = k_point };
        ray = n 1 ∷ [];
        solved = subst (λ (f : Form). IsSolvedWithin (ray_problem f) 1 (n 1 ∷ [])) (sym k_is) k_ray;
        direction = k_direction;
      };
      certificate = refl;
    })
