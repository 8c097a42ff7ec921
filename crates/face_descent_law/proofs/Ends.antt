-- Shrink steps keep what they must, and end.
use Rattle.std.proofs.Common.{◌≡◌, ◌≢◌, refl, sym, ◌∙◌, ap, subst, ℕ, zero, suc, ◌+◌, ◌<◌, ◌≤◌, List, [], ◌∷◌, ◌++◌, length, take, arith, ⊎_elim, inl, inr, ◌⊎◌, Bool, true, false, if◌then◌else◌, ◌==◌}
use Rattle.std.proofs.lemmas.List.Elements.{All-from_get_or}
use Rattle.std.proofs.lemmas.Bool.Decides.{nat_tests}
use Rattle.rational.specs.Rational.{ℚ, zero_ℚ, one_ℚ, neg_ℚ}
use Rattle.rational.specs.Order.{◌≤ℚ◌, ◌<ℚ◌}
use Rattle.rational.specs.Sums.{entry}
use Rattle.rational.specs.Vectors.{zeros, quadratic, IsSemidefinite, scale}
use Rattle.rational.proofs.Order.{le_refl, lt_le, le_or_lt, lt_irrefl}
use Rattle.rational.proofs.OrderLaws.{le_trans, lt-le_trans}
use Rattle.rational.proofs.Vectors.{zeros_by_entries}
use Rattle.elimination_law.specs.Answers.{Answer, Solution, Refutation}
use Rattle.equational_law.specs.Form.{Form}
use Rattle.equational_law.specs.Solutions.{IsForm, IsSolution, IsFormRay}
use Rattle.face_descent_law.specs.Small.{support, support_from, small_answer, IsStationary}
use Rattle.face_descent_law.specs.Step.{on_support, moved, IsTurned, IsWithin, IsNearest, IsSolvedStep, IsRefutedStep, IsShrinkStep, AreShrinkSteps, newest_point, is_still, measure}
use Rattle.face_descent_law.proofs.Supports.{off_support}
use Rattle.face_descent_law.proofs.Stationary.{length-e}
use Rattle.face_descent_law.proofs.Directions.{direction_off, length-way, way_solves, way_keeps, value_within_one, full_stationary, length-turned, turned_keeps, turned_flat, turned_slope, turned_off, turned_falls, turned_cost}
use Rattle.face_descent_law.proofs.Moves.{solution_there, stays_zero, size_zero, capped_there, capped_within, capped_at_most, capped_nonneg, nearest_positive, no_more_places, loses_a_place}
use Rattle.face_descent_law.proofs.Rayless.{nearest_without_ray}

-- ---- the test

size-zeros : (j k : ℕ) → length (support_from j (zeros k)) ≡ 0
size-zeros j zero = refl
size-zeros j (suc k) = size_zero j zero_ℚ (zeros k) refl ∙ size-zeros (suc j) k

empty_zeros : (k : ℕ) (e : List ℚ) → length e ≡ k → length (support e) ≡ 0 → e ≡ zeros k
empty_zeros k e l h = zeros_by_entries e k l (λ i b. off_support e i (All-from_get_or (λ c. c ≢ i) (support e) 0 (λ c d. absurd (omega arith))))

is_none : (a : ℕ) → a ≡ 0 → (a == 0) ≡ true
is_none a e = grind (arith, nat_tests)

none_is : (a : ℕ) → (a == 0) ≡ true → a ≡ 0
none_is a e = grind (arith, nat_tests)

abbrev flag : Bool → ℕ
flag b = if b then 0 else 1

bit_at_most : (b : Bool) → flag b ≤ 1
bit_at_most true = omega arith
bit_at_most false = omega arith

bit_true : (b : Bool) → b ≡ true → flag b ≡ 0
bit_true true e = refl
bit_true false e = absurd (bad e)
  where
    bad : false ≡ true → ⊥
    bad e = cc

bit_false : (b : Bool) → ¬ (b ≡ true) → flag b ≡ 1
bit_false true e = absurd (e refl)
bit_false false e = refl

abbrev bit : Form → List ℚ → ℕ
bit f z = flag (is_still (length (support z)) (small_answer f z))

still_there : (f : Form) (z : List ℚ) → IsStationary f z → is_still (length (support z)) (small_answer f z) ≡ true
still_there f z h =
    ap (is_still (length (support z))) h.solved
    ∙ is_none (length (support (take (length (support z)) h.unknowns))) (ap (λ t. length (support t)) h.still ∙ size-zeros 0 (length (support z)))

stationary_bit : (f : Form) (z : List ℚ) → IsStationary f z → bit f z ≡ 0
stationary_bit f z h = bit_true (is_still (length (support z)) (small_answer f z)) (still_there f z h)

module _ (n : ℕ) (f : Form) (is : IsForm n f) (definite : IsSemidefinite n f.quadratic) where
  abbrev value : List ℚ → ℚ
  value y = quadratic f.quadratic f.cost f.constant y

  still_parts : (z : List ℚ) → length z ≡ n → (x : List ℚ) → small_answer f z ≡ Solution x → is_still (length (support z)) (small_answer f z) ≡ true → take (length (support z)) x ≡ zeros (length (support z))
  still_parts z wide x e h =
      empty_zeros (length (support z)) (take (length (support z)) x) (length-e n f z is wide x (way_solves n f z is wide definite x e))
      (none_is (length (support (take (length (support z)) x))) (sym (ap (is_still (length (support z))) e) ∙ h))

  -- what a step keeps
  pub record Kept (z next : List ℚ) : Type 0 where
    pub solution : IsSolution f next
    pub value_down : value next ≤ℚ value z
    pub within : (j : ℕ) → entry z j ≡ zero_ℚ → entry next j ≡ zero_ℚ
    pub smaller : measure f next < measure f z

  module _ (z : List ℚ) (sol : IsSolution f z) where
    wide : length z ≡ n
    wide = sol.width ∙ is.cost

    fewer : (next : List ℚ) → bit f z ≡ 1 → length (support next) < length (support z) → measure f next < measure f z
    fewer next one less = let b = bit_at_most (is_still (length (support next)) (small_answer f next)) in omega (arith, one)

    ended : (next : List ℚ) → bit f z ≡ 1 → bit f next ≡ 0 → length (support next) ≤ length (support z) → measure f next < measure f z
    ended next one none less = omega (arith, one, none)

    solved_kept : (next : List ℚ) → IsSolvedStep n f z next → Kept z next
    solved_kept next h = subst (Kept z) (sym h.end) (record {
      solution = solution_there n z d h.step wide long f is.cost sol (way_keeps n f z is wide definite h.unknowns h.solved) is.right s_nonneg (capped_within z d h.step h.capped);
      value_down = value_within_one n f z is wide definite h.unknowns h.solved h.step s_nonneg (capped_at_most z d h.step h.capped);
      within = λ j e. stays_zero n z d h.step wide long j e (off j e);
      smaller = ⊎_elim full short h.capped;
    })
      where
        d : List ℚ
        d = on_support n z h.unknowns

        long : length d ≡ n
        long = length-way n f z is wide definite h.unknowns h.solved

        off : (j : ℕ) → entry z j ≡ zero_ℚ → entry d j ≡ zero_ℚ
        off = direction_off n z h.unknowns

        s_nonneg : zero_ℚ ≤ℚ h.step
        s_nonneg = capped_nonneg z d h.step sol.not_negative h.capped

        one : bit f z ≡ 1
        one = bit_false (is_still (length (support z)) (small_answer f z)) (λ e. h.moving (still_parts z wide h.unknowns h.solved e))

        full : (h.step ≡ one_ℚ) × IsWithin z d h.step → measure f (moved z d h.step) < measure f z
        full k = ended (moved z d h.step) one
            (ap (λ s. bit f (moved z d s)) (k.0) ∙ stationary_bit f (moved z d one_ℚ) (full_stationary n f z is wide definite h.unknowns h.solved))
            (no_more_places n z d h.step wide long off)

        short : IsNearest z d h.step × (h.step ≤ℚ one_ℚ) → measure f (moved z d h.step) < measure f z
        short k = fewer (moved z d h.step) one (loses_a_place n z d h.step wide long off (k.0))

    refuted_kept : (next : List ℚ) → IsRefutedStep n f z next → Kept z next
    refuted_kept next h = subst (Kept z) (sym h.end) (record {
      solution = solution_there n z h.direction h.step wide long f is.cost sol (turned_keeps n f z is wide definite h.multipliers h.number h.refuted h.direction h.turned) is.right (lt_le _ _ s_positive) near.within;
      value_down = lt_le _ _ (turned_falls n f z is wide definite h.multipliers h.number h.refuted h.direction h.turned h.step s_positive);
      within = λ j e. stays_zero n z h.direction h.step wide long j e (off j e);
      smaller = fewer (moved z h.direction h.step) one (loses_a_place n z h.direction h.step wide long off near);
    })
      where
        near : IsNearest z h.direction h.step
        near = h.nearest

        long : length h.direction ≡ n
        long = length-turned n f z is wide definite h.multipliers h.number h.refuted h.direction h.turned

        off : (j : ℕ) → entry z j ≡ zero_ℚ → entry h.direction j ≡ zero_ℚ
        off = turned_off n f z is wide definite h.multipliers h.number h.refuted h.direction h.turned

        s_positive : zero_ℚ <ℚ h.step
        s_positive = nearest_positive z h.direction h.step sol.not_negative off near

        one : bit f z ≡ 1
        one = ap (λ a. flag (is_still (length (support z)) a)) h.refuted

    pub full_is_stationary : (next : List ℚ) (h : IsSolvedStep n f z next) → h.step ≡ one_ℚ → IsStationary f next
    full_is_stationary next h e =
        subst (IsStationary f) (sym (h.end ∙ ap (moved z (on_support n z h.unknowns)) e)) (full_stationary n f z is wide definite h.unknowns h.solved)

    pub short_loses : (next : List ℚ) (h : IsSolvedStep n f z next) → ¬ (h.step ≡ one_ℚ) → length (support next) < length (support z)
    short_loses next h ne =
        subst (λ t. length (support t) < length (support z)) (sym h.end)
        (⊎_elim (λ k. absurd (ne (k.0)))
        (λ k. loses_a_place n z (on_support n z h.unknowns) h.step wide (length-way n f z is wide definite h.unknowns h.solved) (direction_off n z h.unknowns) (k.0)) h.capped)

    refuted_off : (next : List ℚ) (h : IsRefutedStep n f z next) (j : ℕ) → entry z j ≡ zero_ℚ → entry h.direction j ≡ zero_ℚ
    refuted_off next h = turned_off n f z is wide definite h.multipliers h.number h.refuted h.direction h.turned

    pub refuted_loses : (next : List ℚ) → IsRefutedStep n f z next → length (support next) < length (support z)
    refuted_loses next h =
        subst (λ t. length (support t) < length (support z)) (sym h.end)
        (loses_a_place n z h.direction h.step wide (length-turned n f z is wide definite h.multipliers h.number h.refuted h.direction h.turned) (refuted_off next h) h.nearest)

    pub refuted_falls : (next : List ℚ) → IsRefutedStep n f z next → value next <ℚ value z
    refuted_falls next h =
        subst (λ t. value t <ℚ value z) (sym h.end)
        (turned_falls n f z is wide definite h.multipliers h.number h.refuted h.direction h.turned h.step
        (nearest_positive z h.direction h.step sol.not_negative (refuted_off next h) h.nearest))

    pub step_kept : (next : List ℚ) → IsShrinkStep n f z next → Kept z next
    step_kept next h = ⊎_elim (solved_kept next) (refuted_kept next) h

    pub step_or_stationary : ((r : List ℚ) → ¬ (IsFormRay f r)) → IsStationary f z ⊎ ((next : List ℚ) × IsShrinkStep n f z next)
    step_or_stationary rayless = by (small_answer f z) refl
      where
        solved_by : (x : List ℚ) → small_answer f z ≡ Solution x → (b : Bool) → is_still (length (support z)) (small_answer f z) ≡ b → IsStationary f z ⊎ ((next : List ℚ) × IsShrinkStep n f z next)
        solved_by x e true h = inl (record { unknowns = x; solved = e; still = still_parts z wide x e h })
        solved_by x e false h =
            let s = capped_there z (on_support n z x) in
            inr (moved z (on_support n z x) s.0, inl (record { unknowns = x; solved = e; moving = λ k. not_both (still_there f z (record { unknowns = x; solved = e; still = k })) h; step = s.0; capped = s.1; end = refl }))
          where
            not_both : {b : Bool} → b ≡ true → b ≡ false → ⊥
            not_both p q = cc

        turned_by : (w : List ℚ) (v : ℚ) → small_answer f z ≡ Refutation w v → (d : List ℚ) → IsTurned v (on_support n z w) d → (next : List ℚ) × IsShrinkStep n f z next
        turned_by w v e d t =
            let s = nearest_without_ray n f d is (length-turned n f z is wide definite w v e d t) (turned_keeps n f z is wide definite w v e d t) (turned_flat n f z is wide definite w v e d t)
            (subst (λ x. x <ℚ zero_ℚ) (sym (turned_cost n f z is wide definite w v e d t)) (turned_slope n f z is wide definite w v e d t)) z rayless in
            (moved z d s.0, inr (record { multipliers = w; number = v; refuted = e; direction = d; turned = t; step = s.0; nearest = s.1; end = refl }))

        by : (a : Answer) → small_answer f z ≡ a → IsStationary f z ⊎ ((next : List ℚ) × IsShrinkStep n f z next)
        by (Solution x) e = solved_by x e (is_still (length (support z)) (small_answer f z)) refl
        by (Refutation w v) e = inr (⊎_elim
            (λ h. turned_by w v e (scale (neg_ℚ one_ℚ) (on_support n z w)) (record { as_it_is = λ k. absurd (lt_irrefl zero_ℚ (lt-le_trans k h)); changed = λ k. refl }))
            (λ h. turned_by w v e (on_support n z w) (record { as_it_is = λ k. refl; changed = λ k. absurd (k h) }))
            (le_or_lt v zero_ℚ))

    pub stationary_has_no_step : (next : List ℚ) → IsStationary f z → IsShrinkStep n f z next → ⊥
    stationary_has_no_step next h step = ⊎_elim
        (λ k. k.moving (ap (take (length (support z))) (same_solution (sym k.solved ∙ h.solved)) ∙ h.still))
        (λ k. other_answer (sym h.solved ∙ k.refuted)) step
      where
        same_solution : {x y : List ℚ} → Solution x ≡ Solution y → x ≡ y
        same_solution e = cc

        other_answer : {x w : List ℚ} {v : ℚ} → Solution x ≡ Refutation w v → ⊥
        other_answer e = cc

  -- ---- lists of steps

  pub record Ended (z : List ℚ) (points : List (List ℚ)) : Type 0 where
    pub solution : IsSolution f (newest_point z points)
    pub value_down : value (newest_point z points) ≤ℚ value z
    pub within : (j : ℕ) → entry z j ≡ zero_ℚ → entry (newest_point z points) j ≡ zero_ℚ
    pub bounded : measure f (newest_point z points) + length points ≤ measure f z

  pub steps_kept : (z : List ℚ) (points : List (List ℚ)) → IsSolution f z → AreShrinkSteps n f z points → Ended z points
  steps_kept z [] sol steps = record { solution = sol; value_down = le_refl (value z); within = λ j e. e; bounded = omega arith }
  steps_kept z (next ∷ earlier) sol steps =
      let r = steps_kept z earlier sol (steps.1) in
      let k = step_kept (newest_point z earlier) r.solution next (steps.0) in
      let b = r.bounded in
      let c = k.smaller in
      record { solution = k.solution; value_down = le_trans k.value_down r.value_down; within = λ j e. k.within j (r.within j e); bounded = omega arith }

  -- steps from the end of a step, with that step before them
  newest_after : (z next : List ℚ) (points : List (List ℚ)) → newest_point z (points ++ next ∷ []) ≡ newest_point next points
  newest_after z next [] = refl
  newest_after z next (p ∷ points) = refl

  steps_after : (z next : List ℚ) (points : List (List ℚ)) → IsShrinkStep n f z next → AreShrinkSteps n f next points → AreShrinkSteps n f z (points ++ next ∷ [])
  steps_after z next [] step steps = (step, tt)
  steps_after z next (p ∷ points) step steps =
      (subst (λ t. IsShrinkStep n f t p) (sym (newest_after z next points)) (steps.0), steps_after z next points step (steps.1))

  ends_by : (k : ℕ) (z : List ℚ) → measure f z ≤ k → IsSolution f z → ((r : List ℚ) → ¬ (IsFormRay f r)) → (points : List (List ℚ)) × AreShrinkSteps n f z points × IsStationary f (newest_point z points)
  ends_by zero z b sol rayless = ⊎_elim (λ h. ([], tt, h)) (λ h. absurd (let c = (step_kept z sol h.0 h.1).smaller in omega arith)) (step_or_stationary z sol rayless)
  ends_by (suc k) z b sol rayless = ⊎_elim (λ h. ([], tt, h))
      (λ h. let kept = step_kept z sol h.0 h.1 in let c = kept.smaller in let r = ends_by k h.0 (omega arith) kept.solution rayless in
      (r.0 ++ h.0 ∷ [], steps_after z h.0 r.0 h.1 r.1, subst (IsStationary f) (sym (newest_after z h.0 r.0)) r.2))
      (step_or_stationary z sol rayless)

  pub steps_end : (z : List ℚ) → IsSolution f z → ((r : List ℚ) → ¬ (IsFormRay f r)) → (points : List (List ℚ)) × AreShrinkSteps n f z points × IsStationary f (newest_point z points)
  steps_end z = ends_by (measure f z) z (omega arith)

  -- ---- how many steps

  no_empty_step : (z next : List ℚ) → IsSolution f z → IsShrinkStep n f z next → 1 ≤ length (support z)
  no_empty_step z next sol step = by (support z) refl
    where
      nothing : (x : List ℚ) → length (support z) ≡ 0 → take (length (support z)) x ≡ zeros (length (support z))
      nothing x e = subst (λ (k : ℕ). take k x ≡ zeros k) (sym e) refl

      by : (s : List ℕ) → support z ≡ s → 1 ≤ length (support z)
      by (j ∷ s) e = let a = ap length e in omega arith
      by [] e = ⊎_elim (λ h. absurd (h.moving (nothing h.unknowns (ap length e)))) (λ h. let a = refuted_loses z sol next h in let b = ap length e in absurd (omega arith)) step

  -- a step loses a place or is stationary
  step_loses : (z next : List ℚ) → IsSolution f z → IsShrinkStep n f z next → IsStationary f next ⊎ (length (support next) < length (support z))
  step_loses z next sol step = ⊎_elim
      (λ h. ⊎_elim (λ k. inl (full_is_stationary z sol next h (k.0)))
      (λ k. inr (subst (λ t. length (support t) < length (support z)) (sym h.end)
      (loses_a_place n z (on_support n z h.unknowns) h.step (wide z sol) (length-way n f z is (wide z sol) definite h.unknowns h.solved) (direction_off n z h.unknowns) (k.0)))) h.capped)
      (λ h. inr (refuted_loses z sol next h)) step

  pub record Few (z : List ℚ) (points : List (List ℚ)) : Type 0 where
    pub all : length points ≤ length (support z)
    pub more : ¬ (IsStationary f (newest_point z points)) → length points + length (support (newest_point z points)) ≤ length (support z)

  pub few_steps : (z : List ℚ) (points : List (List ℚ)) → IsSolution f z → AreShrinkSteps n f z points → Few z points
  few_steps z [] sol steps = record { all = omega arith; more = λ h. omega arith }
  few_steps z (next ∷ earlier) sol steps =
      let r = few_steps z earlier sol (steps.1) in
      let u = (steps_kept z earlier sol (steps.1)).solution in
      let a = r.more (λ h. stationary_has_no_step (newest_point z earlier) u next h (steps.0)) in
      let b = no_empty_step (newest_point z earlier) next u (steps.0) in
      record {
        all = omega arith;
        more = λ h. ⊎_elim (λ s. absurd (h s)) (λ l. omega arith) (step_loses (newest_point z earlier) next u (steps.0));
      }
