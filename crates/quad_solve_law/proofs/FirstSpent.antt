-- The first site at which a budget is used up: a region has one, or an answer within the budget, and never two of these.
use Rattle.std.proofs.Common.{◌≡◌, refl, sym, ◌∙◌, ap, subst, ℕ, ◌+◌, ◌<◌, ◌≤◌, ◌⊎◌, inl, inr, List, [], ◌∷◌, length, map, suc, arith}
use Rattle.std.specs.Prelude.{All}
use Rattle.std.proofs.lemmas.List.Elements.{All-nil, All-cons, All-head, All-tail}
use Rattle.rational.specs.Rational.{ℚ, neg_ℚ}
use Rattle.rational.specs.Order.{◌<ℚ◌}
use Rattle.rational.specs.Vectors.{IsSemidefinite}
use Rattle.rational.proofs.Order.{lt_irrefl}
use Rattle.program_law.specs.Region.{Region}
use Rattle.program_law.specs.Program.{Program, IsProgram}
use Rattle.program_law.specs.Columns.{value}
use Rattle.linear_basis_law.specs.Problem as linear
use Rattle.linear_basis_law.specs.Basis.{Tableau}
use Rattle.linear_simplex_law.specs.Chain.{IsSpent}
use Rattle.equational_law.specs.Form.{Form, width, form_of, point_of, direction_of, multipliers_of}
use Rattle.equational_law.specs.Solutions.{IsForm, IsSolution}
use Rattle.equational_law.proofs.Shapes.{shape, semidefinite}
use Rattle.face_descent_law.specs.Small.{IsStationary, height}
use Rattle.face_descent_law.proofs.Ends.{stationary_has_no_step}
use Rattle.quad_solve_law.specs.Problems.{feasible_problem, ray_problem, price_problem, price_multipliers}
use Rattle.quad_solve_law.specs.Walk.{IsSolvedWithin, IsRefutedWithin, IsSolved, IsRefuted, IsDecidedWithin, Way, Start, Shrink, Price, Visit, IsPriced, GoesOn, IsWalkFrom, IsOnWalk, HasPricesWithin, IsWalkWithin, IsSpentWalk, one_if_price, price_steps}
use Rattle.quad_solve_law.specs.Answer.{Answer, Empty, Ray, Best, IsFound, IsAnswer, IsBest}
use Rattle.quad_solve_law.specs.Sites.{RegionSite, AtForm, AtFeasible, AtRay, AtFace, AtPrice, HasNoRay, IsFirstSpent}
use Rattle.quad_solve_law.proofs.Decided.{not_both_ends, refuted_is_farkas}
use Rattle.quad_solve_law.proofs.Descents.{prices_form_a_problem}
use Rattle.quad_solve_law.proofs.Directions.{feasible_is_a_problem, rays_form_a_problem, refuted_has_none}
use Rattle.quad_solve_law.proofs.OneEnd.{order, one_solution, one_spent, spent_is_undecided, decided_or_spent}
use Rattle.quad_solve_law.proofs.OneAnswer.{one_walk}
use Rattle.quad_solve_law.proofs.RegionAnswers.{found_is_point}
use Rattle.quad_solve_law.proofs.WalkSteps.{start_solves, newest_solves, below_still}
use Rattle.quad_solve_law.proofs.WalkLengths.{some_walk}

first : {A : Type 0} {a b : A} {xs ys : List A} → a ∷ xs ≡ b ∷ ys → a ≡ b
first e = cc

one_more : (i j k : ℕ) → i ≡ j → k ≡ 1 → i < k + j
one_more i j k e f = omega (arith, e, f)

yet_more : (i j k : ℕ) → i < j → i < k + j
yet_more i j k l = omega (arith, l)

too_many : (i j budget : ℕ) → i ≡ budget → i < j → j ≤ budget → ⊥
too_many i j budget e l m = omega (arith, e, l, m)

-- ---- two walks within a budget

module _ (n : ℕ) (f : Form) (form : IsForm n f) (semi : IsSemidefinite n f.quadratic) where
  priced : (way : Way) (z next : List ℚ) → IsSolution f z → IsStationary f z → GoesOn n f way z next → IsPriced f z next × (one_if_price way ≡ 1)
  priced Start z next sol still h = absurd h
  priced Shrink z next sol still h = absurd (stationary_has_no_step n f form semi z sol next still h)
  priced Price z next sol still h = (h, refl)

  -- a longer walk goes on from a stationary point z at which a shorter one ends, by a price step
  record WentOn (P : Visit → Type 0) (v : Visit) (fewer more : ℕ) : Type 0 where
    holds : P v
    solution : List ℚ
    solved : IsSolved (price_problem f v.point) solution
    steps : fewer < more

  module _ (x : List ℚ) (start : IsSolution f x) where
    went_on : (P : Visit → Type 0) (v : Visit) (vs : List Visit) → IsWalkFrom n f x (v ∷ vs) → IsStationary f v.point → (w : Visit) (ws : List Visit) → IsWalkFrom n f x (w ∷ ws)
        → length (v ∷ vs) < length (w ∷ ws) → All P ws → WentOn P v (price_steps (v ∷ vs)) (price_steps (w ∷ ws))
    went_on P v vs h still w [] k l all = absurd (none (length vs) l)
      where
        none : (i : ℕ) → suc i < 1 → ⊥
        none i l = omega (arith, l)
    went_on P v vs h still w (a ∷ ws) k l all = by (order (length (v ∷ vs)) (length (a ∷ ws))) (went_on P v vs h still a ws k.2)
      where
        by : (length (v ∷ vs) ≡ length (a ∷ ws)) ⊎ (length (v ∷ vs) < length (a ∷ ws)) ⊎ (length (a ∷ ws) < length (v ∷ vs))
            → (length (v ∷ vs) < length (a ∷ ws) → All P ws → WentOn P v (price_steps (v ∷ vs)) (price_steps (a ∷ ws))) → WentOn P v (price_steps (v ∷ vs)) (price_steps (w ∷ a ∷ ws))
        by (inl e) later =
            let s : v ∷ vs ≡ a ∷ ws = one_walk n f form semi x start (v ∷ vs) (a ∷ ws) h k.2 e in
            let t : v ≡ a = first s in
            let g = priced w.way v.point w.point (newest_solves n f form semi x start v vs h) still (subst (λ (u : Visit). GoesOn n f w.way u.point w.point) (sym t) k.0) in
            record {
              holds = subst P (sym t) (All-head P a ws all);
              solution = g.0.solution;
              solved = g.0.solved;
              steps = one_more (price_steps (v ∷ vs)) (price_steps (a ∷ ws)) (one_if_price w.way) (ap price_steps s) g.1;
            }
        by (inr (inl less)) later =
            let r = later less (All-tail P a ws all) in
            record { holds = r.holds; solution = r.solution; solved = r.solved; steps = yet_more (price_steps (v ∷ vs)) (price_steps (a ∷ ws)) (one_if_price w.way) r.steps }
        by (inr (inr more)) later = absurd (between (length (v ∷ vs)) (length (a ∷ ws)) l more)
          where
            between : (i j : ℕ) → i < suc j → j < i → ⊥
            between i j l m = omega (arith, l, m)

    -- no walk comes to a stationary point twice
    comes_once : (v : Visit) (vs : List Visit) → IsWalkFrom n f x (v ∷ vs) → IsStationary f v.point → (w : Visit) (ws : List Visit) → IsWalkFrom n f x (w ∷ ws) → v.point ≡ w.point
        → length (v ∷ vs) < length (w ∷ ws) → ⊥
    comes_once v vs h still w ws k e l =
        let below = (went_on (λ (u : Visit). IsStationary f u.point → height f w.point <ℚ height f u.point) v vs h still w ws k l (below_still n f form semi x start w ws k)).holds still in
        lt_irrefl (height f w.point) (subst (λ (z : List ℚ). height f w.point <ℚ height f z) e below)

    same_steps : (v : Visit) (vs : List Visit) → IsWalkFrom n f x (v ∷ vs) → (w : Visit) (ws : List Visit) → IsWalkFrom n f x (w ∷ ws) → IsStationary f v.point → v.point ≡ w.point
        → price_steps (v ∷ vs) ≡ price_steps (w ∷ ws)
    same_steps v vs h w ws k still e = by (order (length (v ∷ vs)) (length (w ∷ ws)))
      where
        by : (length (v ∷ vs) ≡ length (w ∷ ws)) ⊎ (length (v ∷ vs) < length (w ∷ ws)) ⊎ (length (w ∷ ws) < length (v ∷ vs)) → price_steps (v ∷ vs) ≡ price_steps (w ∷ ws)
        by (inl s) = ap price_steps (one_walk n f form semi x start (v ∷ vs) (w ∷ ws) h k s)
        by (inr (inl l)) = absurd (comes_once v vs h still w ws k e l)
        by (inr (inr l)) = absurd (comes_once w ws k (subst (IsStationary f) e still) v vs h (sym e) l)

  module _ (budget : ℕ) where
    abbrev visit : (z : List ℚ) → IsWalkWithin n f budget z → Visit
    visit z h = record { point = z; way = h.way }

    abbrev steps_of : (z : List ℚ) → IsWalkWithin n f budget z → ℕ
    steps_of z h = price_steps (visit z h ∷ h.earlier)

    abbrev IsPricedWithin : Visit → Type 0
    IsPricedWithin v = IsStationary f v.point → IsDecidedWithin (price_problem f v.point) budget

    same_start : (z w : List ℚ) (h : IsWalkWithin n f budget z) (k : IsWalkWithin n f budget w) → h.start ≡ k.start
    same_start z w h k = one_solution (feasible_problem f) (feasible_is_a_problem n f form) budget budget h.start k.start h.solved k.solved

    -- two walks within the budget end at one stationary point, or one of them goes on from where the other ends
    compare : (z w : List ℚ) (h : IsWalkWithin n f budget z) (k : IsWalkWithin n f budget w) → IsStationary f z → IsStationary f w
        → (z ≡ w) ⊎ WentOn IsPricedWithin (visit z h) (steps_of z h) (steps_of w k) ⊎ WentOn IsPricedWithin (visit w k) (steps_of w k) (steps_of z h)
    compare z w h k still calm = by (order (length (visit z h ∷ h.earlier)) (length (visit w k ∷ k.earlier)))
      where
        sol : IsSolution f k.start
        sol = start_solves n f k.start form (budget, k.solved)

        walk : IsWalkFrom n f k.start (visit z h ∷ h.earlier)
        walk = subst (λ (x : List ℚ). IsWalkFrom n f x (visit z h ∷ h.earlier)) (same_start z w h k) h.walk

        by : (length (visit z h ∷ h.earlier) ≡ length (visit w k ∷ k.earlier)) ⊎ (length (visit z h ∷ h.earlier) < length (visit w k ∷ k.earlier)) ⊎ (length (visit w k ∷ k.earlier) < length (visit z h ∷ h.earlier))
            → (z ≡ w) ⊎ WentOn IsPricedWithin (visit z h) (steps_of z h) (steps_of w k) ⊎ WentOn IsPricedWithin (visit w k) (steps_of w k) (steps_of z h)
        by (inl s) = inl (ap (λ (v : Visit). v.point) (first (one_walk n f form semi k.start sol (visit z h ∷ h.earlier) (visit w k ∷ k.earlier) walk k.walk s)))
        by (inr (inl l)) = inr (inl (went_on k.start sol IsPricedWithin (visit z h) h.earlier walk still (visit w k) k.earlier k.walk l k.prices))
        by (inr (inr l)) = inr (inr (went_on k.start sol IsPricedWithin (visit w k) k.earlier k.walk calm (visit z h) h.earlier walk l h.prices))

    -- the price steps are used up on each walk that comes there
    used_up : (z : List ℚ) (h : IsWalkWithin n f budget z) → IsSpentWalk n f budget z → steps_of z h ≡ budget
    used_up z h s =
        let e : s.walk.start ≡ h.start = one_solution (feasible_problem f) (feasible_is_a_problem n f form) s.walk.solved.0 budget s.walk.start h.start s.walk.solved.1 h.solved in
        let v : Visit = record { point = z; way = s.way } in
        same_steps h.start (start_solves n f h.start form (budget, h.solved)) (visit z h) h.earlier h.walk v s.earlier
        (subst (λ (x : List ℚ). IsWalkFrom n f x (v ∷ s.earlier)) e s.walk.steps) s.stationary refl ∙ s.count

-- ---- one site, or one answer

module _ (p : Program) (region : Region) (is : IsProgram p) (wide : length region ≡ length p.columns) (semi : IsSemidefinite (length p.columns) p.pairs) (budget : ℕ) where
  abbrev n : ℕ
  n = width p region

  abbrev f : Form
  f = form_of p region

  fits : IsForm (width p region) (form_of p region)
  fits = shape p region is wide

  convex : IsSemidefinite (width p region) (form_of p region).quadratic
  convex = semidefinite p region is wide semi

  feasible : linear.IsProblem (feasible_problem f)
  feasible = feasible_is_a_problem n f fits

  rays : linear.IsProblem (ray_problem f)
  rays = rays_form_a_problem n f fits

  prices : (z : List ℚ) → linear.IsProblem (price_problem f z)
  prices z = prices_form_a_problem n f z fits

  abbrev First : RegionSite → Type 0
  First site = IsFirstSpent p region budget site

  faces : (z w : List ℚ) → First (AtFace z) → First (AtFace w) → z ≡ w
  faces z w h k =
      elim (compare n f fits convex budget z w h.before.0 k.before.0 h.spent.stationary k.spent.stationary) [
        | inl e ↦ e
        | inr r ↦ elim r [
          | inl q ↦ absurd (too_many _ _ budget (used_up n f fits convex budget z h.before.0 h.spent) q.steps k.before.0.count)
          | inr q ↦ absurd (too_many _ _ budget (used_up n f fits convex budget w k.before.0 k.spent) q.steps h.before.0.count)
        ]
      ]

  no_face : (z w : List ℚ) (b : Tableau) → First (AtFace z) → First (AtPrice w b) → ⊥
  no_face z w b h k =
      elim (compare n f fits convex budget z w h.before.0 k.before h.spent.stationary k.reached.2) [
        | inl e ↦ spent_is_undecided (price_problem f w) (prices w) budget b k.spent (subst (λ (z : List ℚ). IsDecidedWithin (price_problem f z) budget) e h.before.1)
        | inr r ↦ elim r [
          | inl q ↦ too_many _ _ budget (used_up n f fits convex budget z h.before.0 h.spent) q.steps k.before.count
          | inr q ↦ spent_is_undecided (price_problem f w) (prices w) budget b k.spent (q.holds k.reached.2)
        ]
      ]

  one_price : (z w : List ℚ) (b c : Tableau) → First (AtPrice z b) → First (AtPrice w c) → AtPrice z b ≡ AtPrice w c
  one_price z w b c h k =
      elim (compare n f fits convex budget z w h.before k.before h.reached.2 k.reached.2) [
        | inl e ↦ ap (λ (z : List ℚ). AtPrice z b) e ∙ ap (AtPrice w) (one_spent (price_problem f w) (prices w) budget b c (subst (λ (z : List ℚ). IsSpent (price_problem f z) budget b) e h.spent) k.spent)
        | inr r ↦ elim r [
          | inl q ↦ absurd (spent_is_undecided (price_problem f z) (prices z) budget b h.spent (q.holds h.reached.2))
          | inr q ↦ absurd (spent_is_undecided (price_problem f w) (prices w) budget c k.spent (q.holds k.reached.2))
        ]
      ]

  no_feasible : (b : Tableau) → First (AtFeasible b) → IsDecidedWithin (feasible_problem f) budget → ⊥
  no_feasible b h d = spent_is_undecided (feasible_problem f) feasible budget b h.spent d

  no_rays : (b : Tableau) → First (AtRay b) → IsDecidedWithin (ray_problem f) budget → ⊥
  no_rays b h d = spent_is_undecided (ray_problem f) rays budget b h.spent d

  pub one_site : (s t : RegionSite) → First s → First t → s ≡ t
  one_site AtForm t h k = absurd h.spent
  one_site (AtFeasible b) AtForm h k = absurd k.spent
  one_site (AtFeasible b) (AtFeasible c) h k = ap AtFeasible (one_spent (feasible_problem f) feasible budget b c h.spent k.spent)
  one_site (AtFeasible b) (AtRay c) h k = absurd (no_feasible b h (inl k.before))
  one_site (AtFeasible b) (AtFace w) h k = absurd (no_feasible b h (inl (k.before.0.start, k.before.0.solved)))
  one_site (AtFeasible b) (AtPrice w c) h k = absurd (no_feasible b h (inl (k.before.start, k.before.solved)))
  one_site (AtRay b) AtForm h k = absurd k.spent
  one_site (AtRay b) (AtFeasible c) h k = absurd (no_feasible c k (inl h.before))
  one_site (AtRay b) (AtRay c) h k = ap AtRay (one_spent (ray_problem f) rays budget b c h.spent k.spent)
  one_site (AtRay b) (AtFace w) h k = absurd (no_rays b h (inr k.before.0.no_ray))
  one_site (AtRay b) (AtPrice w c) h k = absurd (no_rays b h (inr k.before.no_ray))
  one_site (AtFace z) AtForm h k = absurd k.spent
  one_site (AtFace z) (AtFeasible c) h k = absurd (no_feasible c k (inl (h.before.0.start, h.before.0.solved)))
  one_site (AtFace z) (AtRay c) h k = absurd (no_rays c k (inr h.before.0.no_ray))
  one_site (AtFace z) (AtFace w) h k = ap AtFace (faces z w h k)
  one_site (AtFace z) (AtPrice w c) h k = absurd (no_face z w c h k)
  one_site (AtPrice z b) AtForm h k = absurd k.spent
  one_site (AtPrice z b) (AtFeasible c) h k = absurd (no_feasible c k (inl (h.before.start, h.before.solved)))
  one_site (AtPrice z b) (AtRay c) h k = absurd (no_rays c k (inr h.before.no_ray))
  one_site (AtPrice z b) (AtFace w) h k = absurd (no_face w z b k h)
  one_site (AtPrice z b) (AtPrice w c) h k = one_price z w b c h k

  -- ---- no answer within the budget beside it

  walk_of_best : (x : List ℚ) (least : ℚ) (y : List ℚ) (k : IsBest p region budget x least y) → IsWalkWithin n f budget k.newest.point
  walk_of_best x least y k = record {
    start = k.start;
    solved = k.solved;
    no_ray = k.no_ray;
    way = k.newest.way;
    earlier = k.earlier;
    walk = k.walk;
    prices = All-tail (IsPricedWithin n f fits convex budget) k.newest k.earlier k.prices;
    count = k.count;
  }

  no_best_after : (x : List ℚ) (least : ℚ) (y : List ℚ) (k : IsBest p region budget x least y) (solution : List ℚ) → IsSolved (price_problem f k.newest.point) solution → ⊥
  no_best_after x least y k solution s = not_both_ends (price_problem f k.newest.point) (prices k.newest.point) s.0 budget solution k.farkas s.1 k.refuted

  no_best_at_face : (z x : List ℚ) (least : ℚ) (y : List ℚ) → First (AtFace z) → IsBest p region budget x least y → ⊥
  unfolding walk_of_best
  no_best_at_face z x least y h k =
      elim (compare n f fits convex budget z k.newest.point h.before.0 (walk_of_best x least y k) h.spent.stationary k.stationary) [
        | inl e ↦ h.spent.goes_on k.farkas (subst (λ (z : List ℚ). IsRefuted (price_problem f z) k.farkas) (sym e) (budget, k.refuted))
        | inr r ↦ elim r [
          | inl q ↦ too_many _ _ budget (used_up n f fits convex budget z h.before.0 h.spent) q.steps k.count
          | inr q ↦ no_best_after x least y k q.solution q.solved
        ]
      ]

  no_best_at_price : (z : List ℚ) (b : Tableau) (x : List ℚ) (least : ℚ) (y : List ℚ) → First (AtPrice z b) → IsBest p region budget x least y → ⊥
  no_best_at_price z b x least y h k =
      elim (compare n f fits convex budget z k.newest.point h.before (walk_of_best x least y k) h.reached.2 k.stationary) [
        | inl e ↦ spent_is_undecided (price_problem f z) (prices z) budget b h.spent (inr (k.farkas, subst (λ (z : List ℚ). IsRefutedWithin (price_problem f z) budget k.farkas) (sym e) k.refuted))
        | inr r ↦ elim r [
          | inl q ↦ spent_is_undecided (price_problem f z) (prices z) budget b h.spent (q.holds h.reached.2)
          | inr q ↦ no_best_after x least y k q.solution q.solved
        ]
      ]

  begun : (answer : Answer) → IsAnswer p region budget answer → IsDecidedWithin (feasible_problem f) budget
  begun (Empty y) k = inr (k.farkas, k.refuted)
  begun (Ray x d) k = inl (k.found.solution, k.found.solved)
  begun (Best x least y) k = inl (k.start, k.solved)

  empty_has_none : (x y : List ℚ) → IsSolvedWithin (feasible_problem f) budget x → IsAnswer p region budget (Empty y) → ⊥
  empty_has_none x y s k = not_both_ends (feasible_problem f) feasible budget budget x k.farkas s k.refuted

  ray_has_one : (w x d : List ℚ) → IsRefutedWithin (ray_problem f) budget w → IsAnswer p region budget (Ray x d) → ⊥
  ray_has_one w x d s k = not_both_ends (ray_problem f) rays budget budget k.ray w k.solved s

  pub no_answer_beside : (site : RegionSite) (answer : Answer) → First site → IsAnswer p region budget answer → ⊥
  no_answer_beside AtForm a h k = h.spent
  no_answer_beside (AtFeasible b) a h k = no_feasible b h (begun a k)
  no_answer_beside (AtRay b) (Empty y) h k = empty_has_none h.before.0 y h.before.1 k
  no_answer_beside (AtRay b) (Ray x d) h k = no_rays b h (inl (k.ray, k.solved))
  no_answer_beside (AtRay b) (Best x least y) h k = no_rays b h (inr k.no_ray)
  no_answer_beside (AtFace z) (Empty y) h k = empty_has_none h.before.0.start y h.before.0.solved k
  no_answer_beside (AtFace z) (Ray x d) h k = ray_has_one h.before.0.no_ray.0 x d h.before.0.no_ray.1 k
  no_answer_beside (AtFace z) (Best x least y) h k = no_best_at_face z x least y h k
  no_answer_beside (AtPrice z b) (Empty y) h k = empty_has_none h.before.start y h.before.solved k
  no_answer_beside (AtPrice z b) (Ray x d) h k = ray_has_one h.before.no_ray.0 x d h.before.no_ray.1 k
  no_answer_beside (AtPrice z b) (Best x least y) h k = no_best_at_price z b x least y h k

  -- ---- and one of the two there is

  abbrev Told : Type 0
  Told = (answer : Answer) × IsAnswer p region budget answer

  abbrev Stopped : Type 0
  Stopped = (site : RegionSite) × First site

  pub feasible_told : IsDecidedWithin (feasible_problem f) budget ⊎ ((b : Tableau) × First (AtFeasible b))
  feasible_told =
      elim (decided_or_spent (feasible_problem f) feasible budget) [
        | inl d ↦ inl d
        | inr s ↦ inr (s.0, record { reached = (budget, s.1.ends); before = tt; spent = s.1 })
      ]

  module _ (start w : List ℚ) (solved : IsSolvedWithin (feasible_problem f) budget start) (refuted : IsRefutedWithin (ray_problem f) budget w) where
    sol : IsSolution f start
    sol = start_solves n f start fits (budget, solved)

    rayless : HasNoRay f
    rayless r = refuted_has_none n f r w fits (refuted_is_farkas (ray_problem f) rays budget w refuted)

    abbrev Kept : Visit → List Visit → Type 0
    Kept v earlier = HasPricesWithin f budget earlier × (price_steps (v ∷ earlier) ≤ budget)

    within : (v : Visit) (earlier : List Visit) → IsWalkFrom n f start (v ∷ earlier) → Kept v earlier → IsWalkWithin n f budget v.point
    within v earlier h k = record { start = start; solved = solved; no_ray = (w, refuted); way = v.way; earlier = earlier; walk = h; prices = k.0; count = k.1 }

    on_walk : (v : Visit) (earlier : List Visit) → IsWalkFrom n f start (v ∷ earlier) → IsOnWalk n f v.point
    on_walk v earlier h = record { way = v.way; earlier = earlier; walk = record { start = start; solved = (budget, solved); steps = h } }

    at_price : (v : Visit) (earlier : List Visit) → IsWalkFrom n f start (v ∷ earlier) → Kept v earlier → IsStationary f v.point → (b : Tableau) → IsSpent (price_problem f v.point) budget b → Stopped
    at_price v earlier h k still b s = (
      AtPrice v.point b,
      record { reached = (rayless, on_walk v earlier h, still, (budget, s.ends)); before = within v earlier h k; spent = s },
    )

    at_face : (v : Visit) (earlier : List Visit) → IsWalkFrom n f start (v ∷ earlier) → Kept v earlier → (next : List ℚ) → IsPriced f v.point next → IsDecidedWithin (price_problem f v.point) budget
        → price_steps (v ∷ earlier) ≡ budget → Stopped
    at_face v earlier h k next g d e = (
      AtFace v.point,
      record {
        reached = (rayless, on_walk v earlier h);
        before = (within v earlier h k, d);
        spent = record {
          way = v.way;
          earlier = earlier;
          walk = record { start = start; solved = (budget, solved); steps = h };
          count = e;
          stationary = g.stationary;
          goes_on = λ y r. not_both_ends (price_problem f v.point) (prices v.point) g.solved.0 r.0 g.solution y g.solved.1 r.1;
        };
      },
    )

    -- the price step from u to v
    kept_price : (v u : Visit) (earlier : List Visit) → IsWalkFrom n f start (u ∷ earlier) → IsPriced f u.point v.point → Kept u earlier
        → (HasPricesWithin f budget (u ∷ earlier) × (1 + price_steps (u ∷ earlier) ≤ budget)) ⊎ Stopped
    kept_price v u earlier h g k =
        elim (decided_or_spent (price_problem f u.point) (prices u.point) budget) [
          | inr s ↦ inr (at_price u earlier h k g.stationary s.0 s.1)
          | inl d ↦ counted (order (price_steps (u ∷ earlier)) budget) d
        ]
      where
        next : (i : ℕ) → i < budget → 1 + i ≤ budget
        next i l = omega (arith, l)

        clash : (i : ℕ) → budget < i → i ≤ budget → ⊥
        clash i l m = omega (arith, l, m)

        counted : (price_steps (u ∷ earlier) ≡ budget) ⊎ (price_steps (u ∷ earlier) < budget) ⊎ (budget < price_steps (u ∷ earlier)) → IsDecidedWithin (price_problem f u.point) budget
            → (HasPricesWithin f budget (u ∷ earlier) × (1 + price_steps (u ∷ earlier) ≤ budget)) ⊎ Stopped
        counted (inl e) d = inr (at_face u earlier h k v.point g d e)
        counted (inr (inl less)) d = inl (All-cons (IsPricedWithin n f fits convex budget) u earlier (λ still. d) k.0, next (price_steps (u ∷ earlier)) less)
        counted (inr (inr more)) d = absurd (clash (price_steps (u ∷ earlier)) more k.1)

    -- each walk keeps within the budget, or passes a site at which it is used up
    kept : (v : Visit) (earlier : List Visit) → IsWalkFrom n f start (v ∷ earlier) → Kept v earlier ⊎ Stopped
    kept v [] h = inl (All-nil (IsPricedWithin n f fits convex budget), subst (λ (u : Visit). one_if_price u.way + 0 ≤ budget) (sym h) (omega arith))
    kept v (u ∷ earlier) h =
        elim (kept u earlier h.2) [
          | inr s ↦ inr s
          | inl k ↦ by v.way h.0 k
        ]
      where
        by : (way : Way) → GoesOn n f way u.point v.point → Kept u earlier → (HasPricesWithin f budget (u ∷ earlier) × (one_if_price way + price_steps (u ∷ earlier) ≤ budget)) ⊎ Stopped
        by Start g k = absurd g
        by Shrink g k = inl (
          All-cons (IsPricedWithin n f fits convex budget) u earlier (λ still. absurd (stationary_has_no_step n f fits convex u.point (newest_solves n f fits convex start sol u earlier h.2) v.point still g)) k.0,
          omega (arith, k.1),
        )
        by Price g k = kept_price v u earlier h.2 g k

    best_of : (v : Visit) (earlier : List Visit) → IsWalkFrom n f start (v ∷ earlier) → Kept v earlier → IsStationary f v.point → (farkas : List ℚ) → IsRefutedWithin (price_problem f v.point) budget farkas → Told
    best_of v earlier h k still farkas r = (
      Best (point_of region v.point) (value p (point_of region v.point)) (multipliers_of p region (price_multipliers f farkas)),
      record {
        start = start;
        solved = solved;
        no_ray = (w, refuted);
        newest = v;
        earlier = earlier;
        walk = h;
        stationary = still;
        farkas = farkas;
        refuted = r;
        prices = All-cons (IsPricedWithin n f fits convex budget) v earlier (λ st. inr (farkas, r)) k.0;
        count = k.1;
        point = refl;
        value = refl;
        multipliers = refl;
      },
    )

    walked_told : Told ⊎ Stopped
    walked_told =
        let t = some_walk n f fits convex start sol rayless in
        elim (kept t.newest t.earlier t.walk) [
          | inr s ↦ inr s
          | inl k ↦ elim (decided_or_spent (price_problem f t.newest.point) (prices t.newest.point) budget) [
            | inr s ↦ inr (at_price t.newest t.earlier t.walk k t.stationary s.0 s.1)
            | inl d ↦ elim d [
              | inl s ↦ absurd (not_both_ends (price_problem f t.newest.point) (prices t.newest.point) budget t.refuted.0 s.0 t.farkas s.1 t.refuted.1)
              | inr r ↦ inl (best_of t.newest t.earlier t.walk k t.stationary r.0 r.1)
            ]
          ]
        ]

  rays_told : (start : List ℚ) → IsSolvedWithin (feasible_problem f) budget start → Told ⊎ Stopped
  rays_told start s =
      let found : IsFound p region budget (point_of region start) = record { solution = start; solved = s; point = refl } in
      elim (decided_or_spent (ray_problem f) rays budget) [
        | inr b ↦ inr (AtRay b.0, record { reached = ((point_of region start, found_is_point p region is wide budget (point_of region start) found), (budget, b.1.ends)); before = (start, s); spent = b.1 })
        | inl d ↦ elim d [
          | inl r ↦ inl (Ray (point_of region start) (direction_of region r.0), record { found = found; ray = r.0; solved = r.1; direction = refl })
          | inr r ↦ walked_told start r.0 s r.1
        ]
      ]

  pub answer_or_spent : Told ⊎ Stopped
  answer_or_spent =
      elim feasible_told [
        | inr b ↦ inr (AtFeasible b.0, b.1)
        | inl d ↦ elim d [
          | inl s ↦ rays_told s.0 s.1
          | inr r ↦ inl (Empty (multipliers_of p region (map neg_ℚ r.0)), record { farkas = r.0; refuted = r.1; multipliers = refl })
        ]
      ]
