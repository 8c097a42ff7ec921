-- Walks: what each step keeps, how they go on, and how the values fall.
use Rattle.std.proofs.Common.{◌≡◌, refl, sym, subst, ℕ, ◌⊎◌, inl, inr, ⊎_elim, List, [], ◌∷◌, arith}
use Rattle.std.specs.Prelude.{All}
use Rattle.std.specs.List.{AllPairs}
use Rattle.std.proofs.lemmas.List.Elements.{All-nil, All-cons, All-weaker}
use Rattle.std.proofs.lemmas.List.Kept.{AllPairs-cons}
use Rattle.rational.specs.Rational.{ℚ}
use Rattle.rational.specs.Order.{◌≤ℚ◌, ◌<ℚ◌}
use Rattle.rational.specs.Vectors.{IsSemidefinite}
use Rattle.rational.proofs.Order.{lt_le}
use Rattle.rational.proofs.OrderLaws.{le_trans, le-lt_trans}
use Rattle.equational_law.specs.Form.{Form}
use Rattle.equational_law.specs.Solutions.{IsForm, IsSolution, IsFormRay}
use Rattle.face_descent_law.specs.Small.{IsStationary, height}
use Rattle.face_descent_law.specs.Step.{IsShrinkStep, AreShrinkSteps, newest_point}
use Rattle.face_descent_law.proofs.Ends.{step_kept, steps_kept, stationary_has_no_step, step_or_stationary}
use Rattle.quad_solve_law.specs.Problems.{feasible_problem, price_problem, direction}
use Rattle.quad_solve_law.specs.Steps.{LeadsDown, HaveSameSupport}
use Rattle.quad_solve_law.specs.Walk.{Way, Start, Shrink, Price, Visit, IsSolved, IsRefuted, IsPriced, GoesOn, IsLowest, IsWalkFrom, IsWalk, IsOnWalk, with_shrinks, IsDecidedWithin, HasPricesWithin, price_steps}
use Rattle.quad_solve_law.proofs.Decided.{some_end, solved_is_solution}
use Rattle.quad_solve_law.proofs.Descents.{prices_form_a_problem, solution_leads_down}
use Rattle.quad_solve_law.proofs.Directions.{feasible_is_a_problem, feasible_solutions}
use Rattle.quad_solve_law.proofs.Moves.{step_solves, step_falls}
use Rattle.quad_solve_law.proofs.Lengths.{some_step}
use Rattle.quad_solve_law.proofs.Stationary.{lesser_differs}

pub start_solves : (n : ℕ) (f : Form) (z : List ℚ) → IsForm n f → IsSolved (feasible_problem f) z → IsSolution f z
start_solves n f z form h = (feasible_solutions f z).0 (solved_is_solution (feasible_problem f) (feasible_is_a_problem n f form) h.0 z h.1)

module _ (n : ℕ) (f : Form) (form : IsForm n f) (semi : IsSemidefinite n f.quadratic) where
  -- ---- one step

  pub priced_down : (z x : List ℚ) → IsSolution f z → IsSolved (price_problem f z) x → LeadsDown f z (direction f z x)
  priced_down z x sol h = solution_leads_down n f z x form sol (solved_is_solution (price_problem f z) (prices_form_a_problem n f z form) h.0 x h.1)

  pub priced_solves : (z next : List ℚ) → IsSolution f z → IsPriced f z next → IsSolution f next
  priced_solves z next sol h =
      subst (IsSolution f) (sym h.end) (step_solves n f z (direction f z h.solution) form semi (priced_down z h.solution sol h.solved) h.step h.goes sol)

  pub priced_falls : (z next : List ℚ) → IsSolution f z → IsPriced f z next → height f next <ℚ height f z
  priced_falls z next sol h =
      subst (λ t. height f t <ℚ height f z) (sym h.end) (step_falls n f z (direction f z h.solution) form semi (priced_down z h.solution sol h.solved) h.step h.goes sol)

  pub step_solution : (way : Way) (z next : List ℚ) → IsSolution f z → GoesOn n f way z next → IsSolution f next
  step_solution Start z next sol h = absurd h
  step_solution Shrink z next sol h = (step_kept n f form semi z sol next h).solution
  step_solution Price z next sol h = priced_solves z next sol h

  pub step_value : (way : Way) (z next : List ℚ) → IsSolution f z → GoesOn n f way z next → height f next ≤ℚ height f z
  step_value Start z next sol h = absurd h
  step_value Shrink z next sol h = (step_kept n f form semi z sol next h).value_down
  step_value Price z next sol h = lt_le _ _ (priced_falls z next sol h)

  -- only a price step leaves a stationary point
  pub step_leaves : (way : Way) (z next : List ℚ) → IsSolution f z → IsStationary f z → GoesOn n f way z next → IsPriced f z next
  step_leaves Start z next sol st h = absurd h
  step_leaves Shrink z next sol st h = absurd (stationary_has_no_step n f form semi z sol next st h)
  step_leaves Price z next sol st h = h

  -- without a ray a point that isn't stationary is left by a shrink step, and one that is by a price step, or its price problem is refuted
  pub step_or_end : (z : List ℚ) → IsSolution f z → ((r : List ℚ) → ¬ (IsFormRay f r)) → (IsStationary f z × (y : List ℚ) × IsRefuted (price_problem f z) y) ⊎ ((way : Way) × (next : List ℚ) × GoesOn n f way z next)
  step_or_end z sol rayless = ⊎_elim (λ st. at st (some_end (price_problem f z) (prices_form_a_problem n f z form))) (λ s. inr (Shrink, s.0, s.1)) (step_or_stationary n f form semi z sol rayless)
    where
      priced : IsStationary f z → (x : List ℚ) → IsSolved (price_problem f z) x → (way : Way) × (next : List ℚ) × GoesOn n f way z next
      priced st x h =
          let s = some_step n f z (direction f z x) form semi sol (priced_down z x sol h) (rayless (direction f z x)) in
          (Price, Rattle.face_descent_law.specs.Step.moved z (direction f z x) s.0, record { stationary = st; solution = x; solved = h; step = s.0; goes = s.1; end = refl })

      at : IsStationary f z → (budget : ℕ) × Rattle.quad_solve_law.specs.Walk.IsDecidedWithin (price_problem f z) budget
          → (IsStationary f z × (y : List ℚ) × IsRefuted (price_problem f z) y) ⊎ ((way : Way) × (next : List ℚ) × GoesOn n f way z next)
      at st e = ⊎_elim (λ s. inr (priced st s.0 (e.0, s.1))) (λ r. inl (st, r.0, (e.0, r.1))) e.1

  -- ---- walks from a solution

  module _ (x : List ℚ) (start : IsSolution f x) where
    Solves : Visit → Type 0
    Solves v = IsSolution f v.point

    pub newest_solves : (v : Visit) (earlier : List Visit) → IsWalkFrom n f x (v ∷ earlier) → IsSolution f v.point
    newest_solves v [] h = subst (λ u. IsSolution f u.point) (sym h) start
    newest_solves v (u ∷ earlier) h = step_solution v.way u.point v.point (newest_solves u earlier h.2) h.0

    pub all_solve : (walk : List Visit) → IsWalkFrom n f x walk → All (λ v. IsSolution f v.point) walk
    all_solve [] h = absurd h
    all_solve (v ∷ []) h = All-cons (λ v. IsSolution f v.point) v [] (newest_solves v [] h) (All-nil (λ v. IsSolution f v.point))
    all_solve (v ∷ u ∷ earlier) h = All-cons (λ v. IsSolution f v.point) v (u ∷ earlier) (newest_solves v (u ∷ earlier) h) (all_solve (u ∷ earlier) h.2)

    -- the values never rise
    none_above : (v : Visit) (earlier : List Visit) → IsWalkFrom n f x (v ∷ earlier) → All (λ u. height f v.point ≤ℚ height f u.point) earlier
    none_above v [] h = All-nil (λ u. height f v.point ≤ℚ height f u.point)
    none_above v (u ∷ earlier) h =
        let down = step_value v.way u.point v.point (newest_solves u earlier h.2) h.0 in
        All-cons (λ w. height f v.point ≤ℚ height f w.point) u earlier down
        (All-weaker (λ w. height f u.point ≤ℚ height f w.point) (λ w. height f v.point ≤ℚ height f w.point) (λ w l. le_trans down l) earlier (none_above u earlier h.2))

    pub values_fall : (walk : List Visit) → IsWalkFrom n f x walk → AllPairs (λ v u. height f v.point ≤ℚ height f u.point) walk
    values_fall [] h = absurd h
    values_fall (v ∷ []) h = λ i j d l m. absurd (omega (arith, l, m))
    values_fall (v ∷ u ∷ earlier) h = AllPairs-cons (λ v u. height f v.point ≤ℚ height f u.point) v (u ∷ earlier) (none_above v (u ∷ earlier) h) (values_fall (u ∷ earlier) h.2)

    -- each point is below all earlier stationary ones
    abbrev IsBelowStill : List ℚ → List Visit → Type 0
    IsBelowStill z visits = All (λ w. IsStationary f w.point → height f z <ℚ height f w.point) visits

    below_next : (way : Way) (u : Visit) (earlier : List Visit) (next : List ℚ) → IsSolution f u.point → GoesOn n f way u.point next → IsBelowStill u.point earlier → IsBelowStill next (u ∷ earlier)
    below_next way u earlier next sol h below =
        All-cons (λ w. IsStationary f w.point → height f next <ℚ height f w.point) u earlier (λ st. priced_falls u.point next sol (step_leaves way u.point next sol st h))
        (All-weaker (λ w. IsStationary f w.point → height f u.point <ℚ height f w.point) (λ w. IsStationary f w.point → height f next <ℚ height f w.point)
        (λ w l st. le-lt_trans (step_value way u.point next sol h) (l st)) earlier below)

    pub below_still : (v : Visit) (earlier : List Visit) → IsWalkFrom n f x (v ∷ earlier) → IsBelowStill v.point earlier
    below_still v [] h = All-nil (λ w. IsStationary f w.point → height f v.point <ℚ height f w.point)
    below_still v (u ∷ earlier) h = below_next v.way u earlier v.point (newest_solves u earlier h.2) h.0 (below_still u earlier h.2)

    pub still_fall : (walk : List Visit) → IsWalkFrom n f x walk → AllPairs (λ v u. IsStationary f u.point → height f v.point <ℚ height f u.point) walk
    still_fall [] h = absurd h
    still_fall (v ∷ []) h = λ i j d l m. absurd (omega (arith, l, m))
    still_fall (v ∷ u ∷ earlier) h = AllPairs-cons (λ v u. IsStationary f u.point → height f v.point <ℚ height f u.point) v (u ∷ earlier) (below_still v (u ∷ earlier) h) (still_fall (u ∷ earlier) h.2)

    pub supports_differ : (walk : List Visit) → IsWalkFrom n f x walk → AllPairs (λ v u. IsStationary f v.point → IsStationary f u.point → ¬ (HaveSameSupport v.point u.point)) walk
    supports_differ walk h i j d l m one other same =
        let sols = all_solve walk h in
        lesser_differs n f _ _ form semi.symmetric (sols j d m) (sols i d (omega (arith, l, m))) other one (still_fall walk h i j d l m other) (λ k. ((same k).1, (same k).0))

    -- ---- how a walk goes on

    pub goes_further : (v : Visit) (earlier : List Visit) (way : Way) (next : List ℚ) → IsWalkFrom n f x (v ∷ earlier) → GoesOn n f way v.point next
        → IsWalkFrom n f x (record { point = next; way = way } ∷ v ∷ earlier)
    goes_further v earlier way next h g = (
      g,
      (λ st. All-weaker (λ w. IsStationary f w.point → height f next <ℚ height f w.point) (λ w. IsStationary f w.point → height f next <ℚ height f w.point) (λ w l. l) (v ∷ earlier)
          (below_next way v earlier next (newest_solves v earlier h) g (below_still v earlier h))),
      h,
    )

    pub shrinks_further : (v : Visit) (earlier : List Visit) (points : List (List ℚ)) → IsWalkFrom n f x (v ∷ earlier) → AreShrinkSteps n f v.point points
        → IsWalkFrom n f x (with_shrinks points (v ∷ earlier))
    shrinks_further v earlier [] h steps = h
    shrinks_further v earlier (z ∷ []) h steps = goes_further v earlier Shrink z h steps.0
    shrinks_further v earlier (z ∷ y ∷ points) h steps =
        goes_further (record { point = y; way = Shrink }) (with_shrinks points (v ∷ earlier)) Shrink z (shrinks_further v earlier (y ∷ points) h steps.1) steps.0

-- each point of a walk is the newest of a walk
pub on_walk : (n : ℕ) (f : Form) (x : List ℚ) (walk : List Visit) → IsSolved (feasible_problem f) x → IsWalkFrom n f x walk → All (λ v. IsOnWalk n f v.point) walk
on_walk n f x [] solved h = absurd h
on_walk n f x (v ∷ []) solved h =
    All-cons (λ v. IsOnWalk n f v.point) v [] (record { way = v.way; earlier = []; walk = record { start = x; solved = solved; steps = h } }) (All-nil (λ v. IsOnWalk n f v.point))
on_walk n f x (v ∷ u ∷ earlier) solved h =
    All-cons (λ v. IsOnWalk n f v.point) v (u ∷ earlier) (record { way = v.way; earlier = u ∷ earlier; walk = record { start = x; solved = solved; steps = h } }) (on_walk n f x (u ∷ earlier) solved h.2)

-- a point that a step or a list of shrink steps reaches from a point of a walk is one of a walk
pub step_on_walk : (n : ℕ) (f : Form) (way : Way) (z next : List ℚ) → IsForm n f → IsSemidefinite n f.quadratic → IsOnWalk n f z → GoesOn n f way z next → IsOnWalk n f next
step_on_walk n f way z next form semi h g = record {
  way = way;
  earlier = record { point = z; way = h.way } ∷ h.earlier;
  walk = record {
    start = h.walk.start;
    solved = h.walk.solved;
    steps = goes_further n f form semi h.walk.start (start_solves n f h.walk.start form h.walk.solved) (record { point = z; way = h.way }) h.earlier way next h.walk.steps g;
  };
}

pub shrinks_on_walk : (n : ℕ) (f : Form) (z : List ℚ) (points : List (List ℚ)) → IsForm n f → IsSemidefinite n f.quadratic → IsOnWalk n f z → AreShrinkSteps n f z points → IsOnWalk n f (newest_point z points)
shrinks_on_walk n f z [] form semi h steps = h
shrinks_on_walk n f z (next ∷ earlier) form semi h steps = step_on_walk n f Shrink (newest_point z earlier) next form semi (shrinks_on_walk n f z earlier form semi h steps.1) steps.0

-- ---- shrink steps and the budget

pub shrinks_count : (points : List (List ℚ)) (walk : List Visit) → price_steps (with_shrinks points walk) ≡ price_steps walk
shrinks_count [] walk = refl
shrinks_count (z ∷ points) walk = let a = shrinks_count points walk in omega (arith, a)

pub shrinks_prices : (n : ℕ) (f : Form) (budget : ℕ) (v : Visit) (earlier : List Visit) (points : List (List ℚ)) → IsForm n f → IsSemidefinite n f.quadratic → IsSolution f v.point
    → HasPricesWithin f budget (v ∷ earlier) → AreShrinkSteps n f v.point points → (IsStationary f (newest_point v.point points) → IsDecidedWithin (price_problem f (newest_point v.point points)) budget)
    → HasPricesWithin f budget (with_shrinks points (v ∷ earlier))
shrinks_prices n f budget v earlier [] form semi sol h steps decided = h
shrinks_prices n f budget v earlier (z ∷ points) form semi sol h steps decided =
    All-cons (λ v. IsStationary f v.point → IsDecidedWithin (price_problem f v.point) budget) (record { point = z; way = Shrink }) (with_shrinks points (v ∷ earlier)) decided
    (shrinks_prices n f budget v earlier points form semi sol h steps.1
    (λ st. absurd (stationary_has_no_step n f form semi (newest_point v.point points) (steps_kept n f form semi v.point points sol steps.1).solution z st steps.0)))
