-- A region has one answer.
use Rattle.std.proofs.Common.{◌≡◌, refl, sym, ◌∙◌, ap, subst, ℕ, ◌<◌, ◌⊎◌, inl, inr, List, [], ◌∷◌, length, arith}
use Rattle.rational.specs.Rational.{ℚ, neg_ℚ}
use Rattle.rational.specs.Vectors.{IsSemidefinite}
use Rattle.program_law.specs.Region.{Region}
use Rattle.program_law.specs.Program.{Program, IsProgram}
use Rattle.program_law.specs.Columns.{value}
use Rattle.equational_law.specs.Form.{Form, width, form_of, point_of, direction_of, multipliers_of}
use Rattle.equational_law.specs.Solutions.{IsForm, IsSolution}
use Rattle.equational_law.proofs.Shapes.{shape, semidefinite}
use Rattle.face_descent_law.specs.Small.{IsStationary}
use Rattle.face_descent_law.specs.Step.{moved}
use Rattle.face_descent_law.proofs.Ends.{stationary_has_no_step}
use Rattle.face_descent_law.proofs.OneStep.{one_shrink}
use Rattle.quad_solve_law.specs.Problems.{feasible_problem, ray_problem, price_problem, price_multipliers, direction}
use Rattle.quad_solve_law.specs.Steps.{IsPriceStep}
use Rattle.quad_solve_law.specs.Walk.{IsSolvedWithin, IsRefutedWithin, IsRefuted, Way, Start, Shrink, Price, Visit, IsPriced, GoesOn, IsWalkFrom}
use Rattle.quad_solve_law.specs.Answer.{Answer, Empty, Ray, Best, IsFound, IsEmpty, IsFalling, IsBest, IsAnswer}
use Rattle.quad_solve_law.proofs.Decided.{not_both_ends}
use Rattle.quad_solve_law.proofs.Descents.{prices_form_a_problem}
use Rattle.quad_solve_law.proofs.Directions.{feasible_is_a_problem, rays_form_a_problem}
use Rattle.quad_solve_law.proofs.Lengths.{one_step}
use Rattle.quad_solve_law.proofs.OneEnd.{order, one_solution, one_farkas}
use Rattle.quad_solve_law.proofs.WalkSteps.{start_solves, priced_down, newest_solves, step_leaves}
use Rattle.quad_solve_law.proofs.RegionAnswers.{no_point_where_empty, no_best_where_empty, no_best_where_falling}

-- ---- a form has one walk of each length

visit_is : (v : Visit) (z : List ℚ) (way : Way) → v.point ≡ z → v.way ≡ way → v ≡ record { point = z; way = way }
visit_is v z way e f = ap (λ t. visit t v.way) e ∙ ap (visit z) f
  where
    visit : List ℚ → Way → Visit
    visit z w = record { point = z; way = w }

module _ (n : ℕ) (f : Form) (form : IsForm n f) (semi : IsSemidefinite n f.quadratic) where
  one_priced : (z a b : List ℚ) → IsSolution f z → IsPriced f z a → IsPriced f z b → a ≡ b
  one_priced z a b sol h k =
      let problem = prices_form_a_problem n f z form in
      let d : direction f z h.solution ≡ direction f z k.solution = ap (direction f z) (one_solution (price_problem f z) problem h.solved.0 k.solved.0 h.solution k.solution h.solved.1 k.solved.1) in
      let s : h.step ≡ k.step = one_step n f z (direction f z k.solution) form semi (priced_down n f form semi z k.solution sol k.solved) h.step k.step
      (subst (λ d. IsPriceStep f z d h.step) d h.goes) k.goes in
      h.end ∙ ap (λ d. moved z d h.step) d ∙ ap (moved z (direction f z k.solution)) s ∙ sym k.end

  one_way : (v w : Way) (z a b : List ℚ) → IsSolution f z → GoesOn n f v z a → GoesOn n f w z b → (a ≡ b) × (v ≡ w)
  one_way Start w z a b sol h k = absurd h
  one_way Shrink Start z a b sol h k = absurd k
  one_way Shrink Shrink z a b sol h k = (one_shrink n f z a b h k, refl)
  one_way Shrink Price z a b sol h k = absurd (stationary_has_no_step n f form semi z sol a k.stationary h)
  one_way Price Start z a b sol h k = absurd k
  one_way Price Shrink z a b sol h k = absurd (stationary_has_no_step n f form semi z sol b h.stationary k)
  one_way Price Price z a b sol h k = (one_priced z a b sol h k, refl)

  module _ (x : List ℚ) (start : IsSolution f x) where
    visits : (v w : Visit) → (v.point ≡ w.point) × (v.way ≡ w.way) → v ≡ w
    visits v w e = visit_is v w.point w.way e.0 e.1

    pub heads : {a b : Visit} {xs ys : List Visit} → a ∷ xs ≡ b ∷ ys → a ≡ b
    heads e = cc

    pub one_walk : (vs ws : List Visit) → IsWalkFrom n f x vs → IsWalkFrom n f x ws → length vs ≡ length ws → vs ≡ ws
    one_walk [] ws h k e = absurd h
    one_walk (v ∷ []) [] h k e = absurd k
    one_walk (v ∷ []) (w ∷ []) h k e = ap (λ t. t ∷ []) (h ∙ sym k)
    one_walk (v ∷ []) (w ∷ a ∷ ws) h k e = absurd (omega arith)
    one_walk (v ∷ u ∷ vs) [] h k e = absurd k
    one_walk (v ∷ u ∷ vs) (w ∷ []) h k e = absurd (omega arith)
    one_walk (v ∷ u ∷ vs) (w ∷ a ∷ ws) h k e =
        let rest : u ∷ vs ≡ a ∷ ws = one_walk (u ∷ vs) (a ∷ ws) h.2 k.2 (omega arith) in
        let same : v ≡ w = visits v w (one_way v.way w.way u.point v.point w.point (newest_solves n f form semi x start u vs h.2) h.0
        (subst (λ t. GoesOn n f w.way t.point w.point) (sym (heads rest)) k.0)) in
        ap (λ t. t ∷ u ∷ vs) same ∙ ap (λ t. w ∷ t) rest

    -- where a walk has come to its end no other goes on
    EndsAt : List ℚ → Type 0
    EndsAt z = IsStationary f z × (y : List ℚ) × IsRefuted (price_problem f z) y

    no_way_from : (way : Way) (z next : List ℚ) → IsSolution f z → EndsAt z → GoesOn n f way z next → ⊥
    unfolding EndsAt
    no_way_from way z next sol e h =
        let priced = step_leaves n f form semi way z next sol e.0 h in
        not_both_ends (price_problem f z) (prices_form_a_problem n f z form) priced.solved.0 e.2.0 priced.solution e.1 priced.solved.1 e.2.1

    no_longer_walk : (v : Visit) (vs : List Visit) → IsWalkFrom n f x (v ∷ vs) → EndsAt v.point → (ws : List Visit) → IsWalkFrom n f x ws → length (v ∷ vs) < length ws → ⊥
    no_longer_walk v vs h e [] k l = k
    no_longer_walk v vs h e (w ∷ []) k l = absurd (omega arith)
    no_longer_walk v vs h e (w ∷ a ∷ ws) k l = by (order (length (v ∷ vs)) (length (a ∷ ws))) (no_longer_walk v vs h e (a ∷ ws) k.2)
      where
        by : (length (v ∷ vs) ≡ length (a ∷ ws)) ⊎ (length (v ∷ vs) < length (a ∷ ws)) ⊎ (length (a ∷ ws) < length (v ∷ vs)) → (length (v ∷ vs) < length (a ∷ ws) → ⊥) → ⊥
        by (inl s) later = no_way_from w.way v.point w.point (newest_solves n f form semi x start v vs h) e
            (subst (λ t. GoesOn n f w.way t.point w.point) (sym (heads (one_walk (v ∷ vs) (a ∷ ws) h k.2 s))) k.0)
        by (inr (inl m)) later = later m
        by (inr (inr m)) later = absurd (omega arith)

    pub one_end : (v w : Visit) (vs ws : List Visit) (y u : List ℚ) → IsWalkFrom n f x (v ∷ vs) → IsWalkFrom n f x (w ∷ ws) → IsStationary f v.point → IsStationary f w.point
        → IsRefuted (price_problem f v.point) y → IsRefuted (price_problem f w.point) u → v.point ≡ w.point
    unfolding EndsAt
    one_end v w vs ws y u h k still calm d e = by (order (length (v ∷ vs)) (length (w ∷ ws)))
      where
        by : (length (v ∷ vs) ≡ length (w ∷ ws)) ⊎ (length (v ∷ vs) < length (w ∷ ws)) ⊎ (length (w ∷ ws) < length (v ∷ vs)) → v.point ≡ w.point
        by (inl s) = ap (λ t. t.point) (heads (one_walk (v ∷ vs) (w ∷ ws) h k s))
        by (inr (inl m)) = absurd (no_longer_walk v vs h (still, y, d) (w ∷ ws) k m)
        by (inr (inr m)) = absurd (no_longer_walk w ws k (calm, u, e) (v ∷ vs) h m)

-- ---- a region has one answer

module _ (p : Program) (region : Region) (is : IsProgram p) (wide : length region ≡ length p.columns) where
  abbrev f : Form
  f = form_of p region

  fits : IsForm (width p region) f
  fits = shape p region is wide

  pub one_start : (a b : ℕ) (x y : List ℚ) → IsSolvedWithin (feasible_problem f) a x → IsSolvedWithin (feasible_problem f) b y → x ≡ y
  one_start = one_solution (feasible_problem f) (feasible_is_a_problem (width p region) f fits)

  pub one_found : (a b : ℕ) (x y : List ℚ) → IsFound p region a x → IsFound p region b y → x ≡ y
  one_found a b x y h k = h.point ∙ ap (point_of region) (one_start a b h.solution k.solution h.solved k.solved) ∙ sym k.point

  one_empty : (a b : ℕ) (y u : List ℚ) → IsEmpty p region a y → IsEmpty p region b u → y ≡ u
  one_empty a b y u h k =
      h.multipliers ∙ ap (λ w. multipliers_of p region (Rattle.std.specs.Prelude.map neg_ℚ w)) (one_farkas (feasible_problem f) (feasible_is_a_problem (width p region) f fits) a b h.farkas k.farkas h.refuted k.refuted)
      ∙ sym k.multipliers

  one_direction : (a b : ℕ) (x d y e : List ℚ) → IsFalling p region a x d → IsFalling p region b y e → d ≡ e
  one_direction a b x d y e h k =
      h.direction ∙ ap (direction_of region) (one_solution (ray_problem f) (rays_form_a_problem (width p region) f fits) a b h.ray k.ray h.solved k.solved) ∙ sym k.direction

  module _ (semi : IsSemidefinite (length p.columns) p.pairs) where
    module _ (a b : ℕ) (x y : List ℚ) (v w : ℚ) (s t : List ℚ) (h : IsBest p region a x v s) (k : IsBest p region b y w t) where
      starts : h.start ≡ k.start
      starts = one_start a b h.start k.start h.solved k.solved

      ends : h.newest.point ≡ k.newest.point
      ends = one_end (width p region) f fits (semidefinite p region is wide semi) k.start (start_solves (width p region) f k.start fits (b, k.solved)) h.newest k.newest h.earlier k.earlier h.farkas k.farkas
          (subst (λ x. IsWalkFrom (width p region) f x (h.newest ∷ h.earlier)) starts h.walk) k.walk h.stationary k.stationary (a, h.refuted) (b, k.refuted)

      one_point : x ≡ y
      one_point = h.point ∙ ap (point_of region) ends ∙ sym k.point

      one_value : v ≡ w
      one_value = h.value ∙ ap (value p) one_point ∙ sym k.value

      one_multipliers : s ≡ t
      one_multipliers =
          h.multipliers ∙ ap (λ y. multipliers_of p region (price_multipliers f y))
          (one_farkas (price_problem f k.newest.point) (prices_form_a_problem (width p region) f k.newest.point fits) a b h.farkas k.farkas
          (subst (λ z. IsRefutedWithin (price_problem f z) a h.farkas) ends h.refuted) k.refuted) ∙ sym k.multipliers

    pub one_answer : (a b : ℕ) (one other : Answer) → IsAnswer p region a one → IsAnswer p region b other → one ≡ other
    one_answer a b (Empty y) (Empty u) h k = ap Empty (one_empty a b y u h k)
    one_answer a b (Empty y) (Ray x d) h k = absurd (no_point_where_empty p region is wide b a x y k.found h)
    one_answer a b (Empty y) (Best x v u) h k = absurd (no_best_where_empty p region is wide b a x v u y k h)
    one_answer a b (Ray x d) (Empty u) h k = absurd (no_point_where_empty p region is wide a b x u h.found k)
    one_answer a b (Ray x d) (Ray y e) h k = ap (λ x. Ray x d) (one_found a b x y h.found k.found) ∙ ap (Ray y) (one_direction a b x d y e h k)
    one_answer a b (Ray x d) (Best y v u) h k = absurd (no_best_where_falling p region is wide b a y v u x d k h)
    one_answer a b (Best x v s) (Empty u) h k = absurd (no_best_where_empty p region is wide a b x v s u h k)
    one_answer a b (Best x v s) (Ray y d) h k = absurd (no_best_where_falling p region is wide a b x v s y d h k)
    one_answer a b (Best x v s) (Best y w t) h k =
        ap (λ x. Best x v s) (one_point a b x y v w s t h k) ∙ ap (λ v. Best y v s) (one_value a b x y v w s t h k) ∙ ap (Best y w) (one_multipliers a b x y v w s t h k)
