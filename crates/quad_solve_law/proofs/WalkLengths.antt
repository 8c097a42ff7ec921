-- How long walks are.
use Rattle.std.proofs.Common.{◌≡◌, refl, sym, ◌∙◌, ap, subst, ℕ, zero, suc, ◌+◌, ◌*◌, ◌≤◌, inl, inr, ⊎_elim, List, [], ◌∷◌, length, arith}
use Rattle.std.specs.Prelude.{◌^◌, All}
use Rattle.std.specs.List.{AllPairs}
use Rattle.std.proofs.lemmas.List.Elements.{All-nil, All-cons, All-head, All-tail}
use Rattle.std.proofs.lemmas.List.Kept.{AllPairs-cons}
use Rattle.std.proofs.Math.Nat.{mul-le-mul_right}
use Rattle.rational.specs.Rational.{ℚ}
use Rattle.rational.specs.Order.{◌<ℚ◌}
use Rattle.rational.specs.Vectors.{IsSemidefinite}
use Rattle.equational_law.specs.Form.{Form}
use Rattle.equational_law.specs.Solutions.{IsForm, IsSolution, IsFormRay}
use Rattle.face_descent_law.specs.Small.{IsStationary, height, support}
use Rattle.face_descent_law.specs.Step.{IsShrinkStep, AreShrinkSteps, newest_point}
use Rattle.face_descent_law.proofs.Ends.{few_steps}
use Rattle.quad_solve_law.specs.Problems.{price_problem, direction}
use Rattle.quad_solve_law.specs.Walk.{Way, Start, Shrink, Price, Visit, IsPriced, IsSolved, IsRefuted, GoesOn, IsWalkFrom, IsSpentWalk, one_if_price, price_steps, more_if_shrink, last_shrinks}
use Rattle.quad_solve_law.proofs.Decided.{some_end}
use Rattle.quad_solve_law.proofs.Descents.{prices_form_a_problem}
use Rattle.quad_solve_law.proofs.Doubled.{length-places}
use Rattle.quad_solve_law.proofs.Few.{IsLeft, left_few}
use Rattle.quad_solve_law.proofs.WalkSteps.{start_solves, priced_down, step_or_end, newest_solves, below_still, goes_further}

-- the points that price steps leave
abbrev left_if_price : Way → List ℚ → List (List ℚ) → List (List ℚ)
left_if_price Start z zs = zs
left_if_price Shrink z zs = zs
left_if_price Price z zs = z ∷ zs

abbrev left : List Visit → List (List ℚ)
left [] = []
left (v ∷ []) = []
left (v ∷ u ∷ earlier) = left_if_price v.way u.point (left (u ∷ earlier))

length-left_if_price : (way : Way) (z : List ℚ) (zs : List (List ℚ)) → length (left_if_price way z zs) ≡ one_if_price way + length zs
length-left_if_price Start z zs = omega arith
length-left_if_price Shrink z zs = omega arith
length-left_if_price Price z zs = omega arith

module _ (n : ℕ) (f : Form) (form : IsForm n f) (semi : IsSemidefinite n f.quadratic) (x : List ℚ) (start : IsSolution f x) where
  length-left : (walk : List Visit) → IsWalkFrom n f x walk → length (left walk) ≡ price_steps walk
  length-left [] h = absurd h
  length-left (v ∷ []) h = sym (ap (λ u. one_if_price u.way + 0) h)
  length-left (v ∷ u ∷ earlier) h = length-left_if_price v.way u.point (left (u ∷ earlier)) ∙ ap (λ k. one_if_price v.way + k) (length-left (u ∷ earlier) h.2)

  left_all : (P : List ℚ → Type 0) → ((z next : List ℚ) → IsSolution f z → IsPriced f z next → P z) → (walk : List Visit) → IsWalkFrom n f x walk → All P (left walk)
  left_all P each [] h = absurd h
  left_all P each (v ∷ []) h = All-nil P
  left_all P each (v ∷ u ∷ earlier) h = by v.way h.0 (left_all P each (u ∷ earlier) h.2)
    where
      by : (way : Way) → GoesOn n f way u.point v.point → All P (left (u ∷ earlier)) → All P (left_if_price way u.point (left (u ∷ earlier)))
      by Start g rest = absurd g
      by Shrink g rest = rest
      by Price g rest = All-cons P u.point (left (u ∷ earlier)) (each u.point v.point (newest_solves n f form semi x start u earlier h.2) g) rest

  left_above : (b : ℚ) (v : Visit) (earlier : List Visit) → IsWalkFrom n f x (v ∷ earlier) → All (λ w. IsStationary f w.point → b <ℚ height f w.point) earlier → All (λ z. b <ℚ height f z) (left (v ∷ earlier))
  left_above b v [] h below = All-nil (λ z. b <ℚ height f z)
  left_above b v (u ∷ more) h below = by v.way h.0 (left_above b u more h.2 (All-tail (λ w. IsStationary f w.point → b <ℚ height f w.point) u more below))
    where
      by : (way : Way) → GoesOn n f way u.point v.point → All (λ z. b <ℚ height f z) (left (u ∷ more)) → All (λ z. b <ℚ height f z) (left_if_price way u.point (left (u ∷ more)))
      by Start g rest = absurd g
      by Shrink g rest = rest
      by Price g rest = All-cons (λ z. b <ℚ height f z) u.point (left (u ∷ more)) (All-head (λ w. IsStationary f w.point → b <ℚ height f w.point) u more below g.stationary) rest

  left_rise : (walk : List Visit) → IsWalkFrom n f x walk → AllPairs (λ z w. height f z <ℚ height f w) (left walk)
  left_rise [] h = absurd h
  left_rise (v ∷ []) h = λ i j d l m. absurd (omega (arith, m))
  left_rise (v ∷ u ∷ earlier) h = by v.way h.0 (left_rise (u ∷ earlier) h.2)
    where
      by : (way : Way) → GoesOn n f way u.point v.point → AllPairs (λ z w. height f z <ℚ height f w) (left (u ∷ earlier)) → AllPairs (λ z w. height f z <ℚ height f w) (left_if_price way u.point (left (u ∷ earlier)))
      by Start g rest = absurd g
      by Shrink g rest = rest
      by Price g rest = AllPairs-cons (λ z w. height f z <ℚ height f w) u.point (left (u ∷ earlier)) (left_above (height f u.point) u earlier h.2 (below_still n f form semi x start u earlier h.2)) rest

  left_lead : (walk : List Visit) → IsWalkFrom n f x walk → All (IsLeft f) (left walk)
  left_lead walk h = left_all (IsLeft f) (λ z next sol g. (direction f z g.solution, priced_down n f form semi z g.solution sol g.solved)) walk h

  pub few_prices : (walk : List Visit) → IsWalkFrom n f x walk → suc (price_steps walk) ≤ 2 ^ n
  few_prices walk h =
      subst (λ k. suc k ≤ 2 ^ n) (length-left walk h)
      (left_few n f (left walk) form semi.symmetric (left_all (IsSolution f) (λ z next sol g. sol) walk h) (left_all (IsStationary f) (λ z next sol g. g.stationary) walk h) (left_lead walk h) (left_rise walk h))

  -- and one more, where a direction leads down from the newest point
  pub fewer_prices : (v : Visit) (earlier : List Visit) → IsWalkFrom n f x (v ∷ earlier) → IsStationary f v.point → IsLeft f v.point → suc (suc (price_steps (v ∷ earlier))) ≤ 2 ^ n
  fewer_prices v earlier h st lead =
      let zs = left (v ∷ earlier) in
      subst (λ k. suc (suc k) ≤ 2 ^ n) (length-left (v ∷ earlier) h)
      (left_few n f (v.point ∷ zs) form semi.symmetric
      (All-cons (IsSolution f) v.point zs (newest_solves n f form semi x start v earlier h) (left_all (IsSolution f) (λ z next sol g. sol) (v ∷ earlier) h))
      (All-cons (IsStationary f) v.point zs st (left_all (IsStationary f) (λ z next sol g. g.stationary) (v ∷ earlier) h))
      (All-cons (IsLeft f) v.point zs lead (left_lead (v ∷ earlier) h))
      (AllPairs-cons (λ z w. height f z <ℚ height f w) v.point zs (left_above (height f v.point) v earlier h (below_still n f form semi x start v earlier h)) (left_rise (v ∷ earlier) h)))

  -- ---- shrink steps in between

  -- the shrink steps that a walk ends with
  record Run (newest : List ℚ) (count : ℕ) : Type 0 where
    base : List ℚ
    points : List (List ℚ)
    solves : IsSolution f base
    steps : AreShrinkSteps n f base points
    size : length points ≡ count
    there : newest_point base points ≡ newest

  run : (v : Visit) (earlier : List Visit) → IsWalkFrom n f x (v ∷ earlier) → Run v.point (last_shrinks (v ∷ earlier))
  run v [] h = record { base = v.point; points = []; solves = newest_solves n f form semi x start v [] h; steps = tt; size = sym (ap (λ u. more_if_shrink u.way 0) h); there = refl }
  run v (u ∷ earlier) h = by v.way h.0 (run u earlier h.2)
    where
      by : (way : Way) → GoesOn n f way u.point v.point → Run u.point (last_shrinks (u ∷ earlier)) → Run v.point (more_if_shrink way (last_shrinks (u ∷ earlier)))
      by Start g r = absurd g
      by Shrink g r = record {
        base = r.base;
        points = v.point ∷ r.points;
        solves = r.solves;
        steps = (subst (λ t. IsShrinkStep n f t v.point) (sym r.there) g, r.steps);
        size = ap suc r.size;
        there = refl;
      }
      by Price g r = record { base = v.point; points = []; solves = newest_solves n f form semi x start v (u ∷ earlier) h; steps = tt; size = refl; there = refl }

  pub few_shrinks : (walk : List Visit) → IsWalkFrom n f x walk → last_shrinks walk ≤ n
  few_shrinks [] h = absurd h
  few_shrinks (v ∷ earlier) h =
      let r = run v earlier h in
      let a = (few_steps n f form semi r.base r.points r.solves r.steps).all in
      let b : length (support r.base) ≤ length r.base = length-places 0 r.base in
      omega (arith, a, b, r.size, r.solves.width, form.cost)

  -- ---- all points

  points_by : (walk : List Visit) → IsWalkFrom n f x walk → length walk ≤ price_steps walk * suc n + suc (last_shrinks walk)
  points_by [] h = absurd h
  points_by (v ∷ []) h = omega arith
  points_by (v ∷ u ∷ earlier) h = by v.way h.0 (points_by (u ∷ earlier) h.2) (few_shrinks (u ∷ earlier) h.2)
    where
      times : (p : ℕ) → (1 + p) * suc n ≡ suc n + p * suc n
      times p = omega arith

      by : (way : Way) → GoesOn n f way u.point v.point → length (u ∷ earlier) ≤ price_steps (u ∷ earlier) * suc n + suc (last_shrinks (u ∷ earlier)) → last_shrinks (u ∷ earlier) ≤ n
          → length (v ∷ u ∷ earlier) ≤ (one_if_price way + price_steps (u ∷ earlier)) * suc n + suc (more_if_shrink way (last_shrinks (u ∷ earlier)))
      by Start g r k = absurd g
      by Shrink g r k = omega (arith, r)
      by Price g r k = omega (arith, r, k, times (price_steps (u ∷ earlier)))

  pub few_points : (walk : List Visit) → IsWalkFrom n f x walk → length walk ≤ 2 ^ n * suc n
  few_points walk h = by (price_steps walk) (2 ^ n) (length walk) (last_shrinks walk) (points_by walk h) (few_shrinks walk h) (few_prices walk h)
    where
      by : (p w k s : ℕ) → k ≤ p * suc n + suc s → s ≤ n → suc p ≤ w → k ≤ w * suc n
      by p w k s a b c = let d : suc p * suc n ≤ w * suc n = mul-le-mul_right (suc n) c in let e : suc p * suc n ≡ suc n + p * suc n = omega arith in omega (arith, a, b, d, e)

  -- ---- some walk ends

  pub record EndedWalk : Type 0 where
    pub newest : Visit
    pub earlier : List Visit
    pub walk : IsWalkFrom n f x (newest ∷ earlier)
    pub stationary : IsStationary f newest.point
    pub farkas : List ℚ
    pub refuted : IsRefuted (price_problem f newest.point) farkas

  module _ (rayless : (r : List ℚ) → ¬ (IsFormRay f r)) where
    ends_by : (fuel : ℕ) (v : Visit) (earlier : List Visit) → IsWalkFrom n f x (v ∷ earlier) → 2 ^ n * suc n ≤ fuel + length (v ∷ earlier) → EndedWalk
    ends_by zero v earlier h room = ⊎_elim (λ e. record { newest = v; earlier = earlier; walk = h; stationary = e.0; farkas = e.1; refuted = e.2 })
        (λ s. absurd (full (2 ^ n * suc n) (length (v ∷ earlier)) room
        (few_points (record { point = s.1; way = s.0 } ∷ v ∷ earlier) (goes_further n f form semi x start v earlier s.0 s.1 h s.2))))
        (step_or_end n f form semi v.point (newest_solves n f form semi x start v earlier h) rayless)
      where
        full : (w k : ℕ) → w ≤ 0 + k → suc k ≤ w → ⊥
        full w k a b = omega (arith, a, b)
    ends_by (suc fuel) v earlier h room = ⊎_elim (λ e. record { newest = v; earlier = earlier; walk = h; stationary = e.0; farkas = e.1; refuted = e.2 })
        (λ s. ends_by fuel (record { point = s.1; way = s.0 }) (v ∷ earlier) (goes_further n f form semi x start v earlier s.0 s.1 h s.2) (next (2 ^ n * suc n) fuel (length (v ∷ earlier)) room))
        (step_or_end n f form semi v.point (newest_solves n f form semi x start v earlier h) rayless)
      where
        next : (w k l : ℕ) → w ≤ suc k + l → w ≤ k + suc l
        next w k l a = omega (arith, a)

    pub some_walk : EndedWalk
    some_walk = ends_by (2 ^ n * suc n) (record { point = x; way = Start }) [] refl (room (2 ^ n * suc n) 1)
      where
        room : (w k : ℕ) → w ≤ w + k
        room w k = omega arith

pub spent_few : (n : ℕ) (f : Form) (budget : ℕ) (z : List ℚ) → IsForm n f → IsSemidefinite n f.quadratic → IsSpentWalk n f budget z → budget + 2 ≤ 2 ^ n
spent_few n f budget z form semi h = by (some_end (price_problem f z) (prices_form_a_problem n f z form)).1
  where
    sol : IsSolution f h.walk.start
    sol = start_solves n f h.walk.start form h.walk.solved

    count : (b k w : ℕ) → k ≡ b → suc (suc k) ≤ w → b + 2 ≤ w
    count b k w e l = omega (arith, e, l)

    by : Rattle.quad_solve_law.specs.Walk.IsDecidedWithin (price_problem f z) (some_end (price_problem f z) (prices_form_a_problem n f z form)).0 → budget + 2 ≤ 2 ^ n
    by (inr r) = absurd (h.goes_on r.0 (_, r.1))
    by (inl s) = count budget (price_steps (record { point = z; way = h.way } ∷ h.earlier)) (2 ^ n) h.count
        (fewer_prices n f form semi h.walk.start sol (record { point = z; way = h.way }) h.earlier h.walk.steps h.stationary
        (direction f z s.0, priced_down n f form semi z s.0 (newest_solves n f form semi h.walk.start sol (record { point = z; way = h.way }) h.earlier h.walk.steps) (_, s.1)))
