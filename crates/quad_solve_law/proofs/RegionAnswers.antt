-- What a region's answer says of the region.
use Rattle.std.proofs.Common.{◌≡◌, refl, sym, ◌∙◌, ap, subst, ℕ, Bool, true, false, List, [], ◌∷◌, length}
use Rattle.algebra.proofs.Polynomial.{minus, ◌⊕◌, ◌⊝◌, ◌⊗◌, ◌≼◌, lit}
use Rattle.algebra.proofs.Certificate.{prove, given, scaled, ◌⊞◌, ◌⊠◌, ◌⇐◌}
use Rattle.rational.specs.Rational.{ℚ, zero_ℚ, one_ℚ, neg_ℚ, ◌+ℚ◌, ◌*ℚ◌}
use Rattle.rational.specs.Order.{◌≤ℚ◌, same_fields, same_fields_lem, differ_of_same_fields}
use Rattle.rational.specs.Sums.{entry, half}
use Rattle.rational.specs.Vectors.{dot, add_each, scale, zeros, rows_dot, combine, IsSemidefinite}
use Rattle.rational.proofs.Order.{ordered_rationals}
use Rattle.rational.proofs.Vectors.{length-add_each, length-scale, length-combine, entry-add_each, entry-scale, dot-zeros_right, dot-add_scale_left, transpose}
use Rattle.rational.proofs.Forms.{expansion}
use Rattle.program_law.specs.Region.{Region, IsCrossedRegion}
use Rattle.program_law.specs.Program.{Program, IsProgram}
use Rattle.program_law.specs.Columns.{IsRelaxedPoint, value}
use Rattle.certificate_law.specs.Leaf.{IsGoodFarkas, IsGoodBound}
use Rattle.linear_basis_law.proofs.Verdicts.{dot-nonneg}
use Rattle.equational_law.specs.Form.{Form, width, form_of, point_of, multipliers_of}
use Rattle.equational_law.specs.Solutions.{IsForm, IsSolution, IsRegionRay}
use Rattle.equational_law.specs.Optimal.{IsOptimality}
use Rattle.equational_law.proofs.Points.{point_back}
use Rattle.equational_law.proofs.Forms.{value_back}
use Rattle.equational_law.proofs.Solving.{solution_of, solved}
use Rattle.equational_law.proofs.Rays.{ray_back, ray_from, ray_of}
use Rattle.equational_law.proofs.FarkasBack.{farkas_back}
use Rattle.equational_law.proofs.BoundBack.{bound_back}
use Rattle.equational_law.proofs.Shapes.{shape, semidefinite}
use Rattle.face_descent_law.proofs.Directions.{half_nonneg}
use Rattle.face_descent_law.specs.Small.{height, slope}
use Rattle.quad_solve_law.specs.Problems.{feasible_problem, ray_problem, price_problem, price_multipliers}
use Rattle.quad_solve_law.specs.Steps.{curvature}
use Rattle.quad_solve_law.specs.Answer.{IsFound, IsEmpty, IsFalling, IsBest}
use Rattle.quad_solve_law.proofs.Decided.{solved_is_solution, refuted_is_farkas, not_both_ends}
use Rattle.quad_solve_law.proofs.Descents.{prices_form_a_problem, length-slope, entry_nonneg}
use Rattle.quad_solve_law.proofs.Directions.{refuted_has_none, feasible_is_a_problem, rays_form_a_problem, solution_is_ray, feasible_solutions, feasible_refutations}
use Rattle.quad_solve_law.proofs.Refuted.{multipliers_optimal}
use Rattle.quad_solve_law.proofs.Stationary.{less_itself, there}
use Rattle.quad_solve_law.proofs.WalkSteps.{newest_solves}

-- ---- no solution has a value below that of an optimal one

module _ (n : ℕ) (f : Form) (z w y : List ℚ) (form : IsForm n f) (semi : IsSemidefinite n f.quadratic) (at : IsSolution f z) (to : IsSolution f w) (best : IsOptimality n f z y) where
  abbrev d : List ℚ
  d = add_each w (scale (neg_ℚ one_ℚ) z)

  abbrev taken : List ℚ
  taken = combine n y f.matrix

  sizes : length w ≡ length (scale (neg_ℚ one_ℚ) z)
  sizes = to.width ∙ sym (length-scale (neg_ℚ one_ℚ) z ∙ at.width)

  d_size : length d ≡ n
  d_size = length-add_each w (scale (neg_ℚ one_ℚ) z) sizes ∙ to.width ∙ form.cost

  equal : rows_dot f.matrix d ≡ zeros (length f.matrix)
  equal = Rattle.rational.proofs.Vectors.rows_dot-add f.matrix w (scale (neg_ℚ one_ℚ) z) sizes ∙ ap (λ u. add_each u (rows_dot f.matrix (scale (neg_ℚ one_ℚ) z))) to.equal
      ∙ ap (add_each f.right) (Rattle.rational.proofs.Vectors.rows_dot-scale f.matrix (neg_ℚ one_ℚ) z ∙ ap (scale (neg_ℚ one_ℚ)) at.equal)
      ∙ less_itself f.right ∙ ap zeros form.right

  same : length (slope f z) ≡ length taken
  same = length-slope n f z form ∙ form.cost ∙ sym (length-combine n y f.matrix form.columns)

  term : (g t z w : ℚ) → t ≤ℚ g → zero_ℚ ≤ℚ w → z ≡ zero_ℚ → zero_ℚ ≤ℚ ((g +ℚ neg_ℚ one_ℚ *ℚ t) *ℚ (w +ℚ neg_ℚ one_ℚ *ℚ z))
  term g t z w h k e = prove ordered_rationals (g ∷ t ∷ z ∷ w ∷ []) (λ g t z w. lit 0 ≼ (g ⊕ minus (lit 1) ⊗ t) ⊗ (w ⊕ minus (lit 1) ⊗ z)
      ⇐ (given (t ≼ g) ⊠ given (lit 0 ≼ w)) ⊞ scaled (g ⊝ t) z (lit 0)) refl h k e

  flat_term : (g t v : ℚ) → t ≡ g → zero_ℚ ≤ℚ ((g +ℚ neg_ℚ one_ℚ *ℚ t) *ℚ v)
  flat_term g t v e = prove ordered_rationals (g ∷ t ∷ v ∷ []) (λ g t v. lit 0 ≼ (g ⊕ minus (lit 1) ⊗ t) ⊗ v ⇐ scaled v t g) refl e

  terms : (j : ℕ) → zero_ℚ ≤ℚ (entry (add_each (slope f z) (scale (neg_ℚ one_ℚ) taken)) j *ℚ entry d j)
  terms j = subst (λ a. zero_ℚ ≤ℚ (a *ℚ entry d j))
      (sym (entry-add_each (slope f z) (scale (neg_ℚ one_ℚ) taken) j (same ∙ sym (length-scale (neg_ℚ one_ℚ) taken)) ∙ ap (λ t. entry (slope f z) j +ℚ t) (entry-scale (neg_ℚ one_ℚ) taken j)))
      (by (same_fields (entry z j) zero_ℚ) refl)
    where
      d_is : entry d j ≡ entry w j +ℚ neg_ℚ one_ℚ *ℚ entry z j
      d_is = entry-add_each w (scale (neg_ℚ one_ℚ) z) j sizes ∙ ap (λ t. entry w j +ℚ t) (entry-scale (neg_ℚ one_ℚ) z j)

      by : (b : Bool) → same_fields (entry z j) zero_ℚ ≡ b → zero_ℚ ≤ℚ ((entry (slope f z) j +ℚ neg_ℚ one_ℚ *ℚ entry taken j) *ℚ entry d j)
      by true e = subst (λ v. zero_ℚ ≤ℚ ((entry (slope f z) j +ℚ neg_ℚ one_ℚ *ℚ entry taken j) *ℚ v)) (sym d_is)
          (term (entry (slope f z) j) (entry taken j) (entry z j) (entry w j) (best.at_most j) (entry_nonneg w to.not_negative j) (same_fields_lem (entry z j) zero_ℚ e))
      by false e = flat_term (entry (slope f z) j) (entry taken j) (entry d j) (best.on_support j (differ_of_same_fields (entry z j) zero_ℚ e))

  slopes_up : zero_ℚ ≤ℚ dot (slope f z) d
  slopes_up =
      prove ordered_rationals (dot (slope f z) d ∷ dot taken d ∷ dot (add_each (slope f z) (scale (neg_ℚ one_ℚ) taken)) d ∷ [])
      (λ s t a. lit 0 ≼ s ⇐ given (lit 0 ≼ a) ⊞ scaled (lit 1) a (s ⊕ minus (lit 1) ⊗ t) ⊞ scaled (minus (lit 1)) t (lit 0)) refl
      (dot-nonneg (add_each (slope f z) (scale (neg_ℚ one_ℚ) taken)) d (λ j l. terms j))
      (dot-add_scale_left (slope f z) (neg_ℚ one_ℚ) taken d same)
      (sym (transpose n y f.matrix d form.columns) ∙ ap (dot y) equal ∙ dot-zeros_right y (length f.matrix))

  pub none_lower : height f z ≤ℚ height f w
  none_lower =
      let e : add_each z (scale one_ℚ d) ≡ w = there z w (at.width ∙ sym to.width) in
      let x : height f w ≡ height f z +ℚ one_ℚ *ℚ dot (slope f z) d +ℚ half *ℚ (one_ℚ *ℚ one_ℚ) *ℚ curvature f d =
      subst (λ x. height f x ≡ height f z +ℚ one_ℚ *ℚ dot (slope f z) d +ℚ half *ℚ (one_ℚ *ℚ one_ℚ) *ℚ curvature f d) e
      (expansion n f.quadratic semi.symmetric f.cost f.constant z one_ℚ d form.cost (at.width ∙ form.cost ∙ sym d_size)) in
      prove ordered_rationals (height f z ∷ height f w ∷ dot (slope f z) d ∷ half ∷ curvature f d ∷ [])
      (λ a b g h q. a ≼ b ⇐ scaled (minus (lit 1)) b (a ⊕ lit 1 ⊗ g ⊕ h ⊗ (lit 1 ⊗ lit 1) ⊗ q) ⊞ given (lit 0 ≼ g) ⊞ (given (lit 0 ≼ h) ⊠ given (lit 0 ≼ q))) refl
      x slopes_up half_nonneg (semi.nonneg d d_size)

-- ---- the answers are true

module _ (p : Program) (region : Region) (is : IsProgram p) (wide : length region ≡ length p.columns) where
  abbrev f : Form
  f = form_of p region

  fits : IsForm (width p region) f
  fits = shape p region is wide

  pub found_is_point : (budget : ℕ) (x : List ℚ) → IsFound p region budget x → IsRelaxedPoint p region x
  found_is_point budget x h =
      subst (IsRelaxedPoint p region) (sym h.point)
      (point_back p region h.solution is wide ((feasible_solutions f h.solution).0 (solved_is_solution (feasible_problem f) (feasible_is_a_problem (width p region) f fits) budget h.solution h.solved)))

  pub empty_is_good : (budget : ℕ) (y : List ℚ) → (IsCrossedRegion region → ⊥) → IsEmpty p region budget y → IsGoodFarkas p region y
  empty_is_good budget y uncrossed h =
      subst (IsGoodFarkas p region) (sym h.multipliers)
      (farkas_back p region h.farkas is wide uncrossed
      ((feasible_refutations (width p region) f h.farkas fits).0 (refuted_is_farkas (feasible_problem f) (feasible_is_a_problem (width p region) f fits) budget h.farkas h.refuted)))

  pub falling_is_ray : (budget : ℕ) (x d : List ℚ) → IsFalling p region budget x d → IsRegionRay p region d
  falling_is_ray budget x d h =
      subst (IsRegionRay p region) (sym h.direction)
      (ray_back p region h.ray is wide (solution_is_ray f h.ray (solved_is_solution (ray_problem f) (rays_form_a_problem (width p region) f fits) budget h.ray h.solved)))

  pub best_has_no_ray : (budget : ℕ) (x : List ℚ) (least : ℚ) (y d : List ℚ) → IsBest p region budget x least y → IsRegionRay p region d → ⊥
  best_has_no_ray budget x least y d h r =
      refuted_has_none (width p region) f (ray_of p region d) h.no_ray.0 fits
      (refuted_is_farkas (ray_problem f) (rays_form_a_problem (width p region) f fits) budget h.no_ray.0 h.no_ray.1) (ray_from p region d is wide r).0

  module _ (semi : IsSemidefinite (length p.columns) p.pairs) (budget : ℕ) (x : List ℚ) (least : ℚ) (y : List ℚ) (h : IsBest p region budget x least y) where
    convex : IsSemidefinite (width p region) f.quadratic
    convex = semidefinite p region is wide semi

    start : IsSolution f h.start
    start = (feasible_solutions f h.start).0 (solved_is_solution (feasible_problem f) (feasible_is_a_problem (width p region) f fits) budget h.start h.solved)

    z : List ℚ
    z = h.newest.point

    solves : IsSolution f h.newest.point
    solves = newest_solves (width p region) f fits convex h.start start h.newest h.earlier h.walk

    optimal : IsOptimality (width p region) f h.newest.point (price_multipliers f h.farkas)
    optimal = multipliers_optimal (width p region) f h.newest.point h.farkas fits
        (refuted_is_farkas (price_problem f h.newest.point) (prices_form_a_problem (width p region) f h.newest.point fits) budget h.farkas h.refuted)

    pub best_is_point : IsRelaxedPoint p region x
    best_is_point = subst (IsRelaxedPoint p region) (sym h.point) (point_back p region h.newest.point is wide solves)

    value_is : least ≡ value p (point_of region h.newest.point)
    value_is = h.value ∙ ap (value p) h.point

    good_at : (v : ℚ) (w u : List ℚ) → v ≡ value p (point_of region h.newest.point) → w ≡ point_of region h.newest.point → u ≡ multipliers_of p region (price_multipliers f h.farkas)
        → IsGoodBound p (value p (point_of region h.newest.point)) region (point_of region h.newest.point) (multipliers_of p region (price_multipliers f h.farkas)) → IsGoodBound p v region w u
    good_at v w u a b c g =
        subst (λ v. IsGoodBound p v region w u) (sym a) (subst (λ w. IsGoodBound p (value p (point_of region h.newest.point)) region w u) (sym b)
        (subst (λ u. IsGoodBound p (value p (point_of region h.newest.point)) region (point_of region h.newest.point) u) (sym c) g))

    pub best_is_good : (IsCrossedRegion region → ⊥) → IsGoodBound p least region x y
    best_is_good uncrossed = good_at least x y value_is h.point h.multipliers (bound_back p region h.newest.point (price_multipliers f h.farkas) is wide uncrossed solves optimal)

    pub best_is_least : (w : List ℚ) → IsRelaxedPoint p region w → least ≤ℚ value p w
    best_is_least w at =
        let s = solved p region w is at in
        let lower : height f h.newest.point ≤ℚ height f (solution_of p region w) =
        none_lower (width p region) f h.newest.point (solution_of p region w) (price_multipliers f h.farkas) fits convex solves s.0 optimal in
        subst (λ t. t ≤ℚ value p w) (sym (value_is ∙ sym (value_back p region h.newest.point is wide)))
        (subst (λ t. height f h.newest.point ≤ℚ t) (value_back p region (solution_of p region w) is wide ∙ ap (value p) s.1) lower)

  -- ---- and exclude each other

  pub no_point_where_empty : (one other : ℕ) (x y : List ℚ) → IsFound p region one x → IsEmpty p region other y → ⊥
  no_point_where_empty one other x y h k = not_both_ends (feasible_problem f) (feasible_is_a_problem (width p region) f fits) one other h.solution k.farkas h.solved k.refuted

  pub no_best_where_empty : (one other : ℕ) (x : List ℚ) (least : ℚ) (y u : List ℚ) → IsBest p region one x least y → IsEmpty p region other u → ⊥
  no_best_where_empty one other x least y u h k = not_both_ends (feasible_problem f) (feasible_is_a_problem (width p region) f fits) one other h.start k.farkas h.solved k.refuted

  pub no_best_where_falling : (one other : ℕ) (x : List ℚ) (least : ℚ) (y w d : List ℚ) → IsBest p region one x least y → IsFalling p region other w d → ⊥
  no_best_where_falling one other x least y w d h k = not_both_ends (ray_problem f) (rays_form_a_problem (width p region) f fits) other one k.ray h.no_ray.0 k.solved h.no_ray.1
