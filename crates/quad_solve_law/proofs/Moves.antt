-- Price steps.
use Rattle.std.proofs.Common.{◌≡◌, refl, sym, ◌∙◌, ap, subst, ℕ, ◌⊎◌, inl, inr, ⊎_elim, List, [], ◌∷◌, length}
use Rattle.std.specs.Prelude.{All}
use Rattle.algebra.proofs.Polynomial.{minus, ◌⊕◌, ◌⊗◌, ◌≐◌, ◌≼◌, ◌≺◌, lit}
use Rattle.algebra.proofs.Certificate.{prove, given, scaled, ◌⊞◌, ◌⊠◌, ◌⇐◌}
use Rattle.rational.specs.Rational.{ℚ, zero_ℚ, one_ℚ, neg_ℚ, ◌+ℚ◌, ◌*ℚ◌}
use Rattle.rational.specs.Order.{◌≤ℚ◌, ◌<ℚ◌}
use Rattle.rational.specs.Sums.{entry, half}
use Rattle.rational.specs.Vectors.{dot, zeros, rows_dot, IsSemidefinite}
use Rattle.rational.proofs.Order.{ordered_rationals, le_or_lt, lt_le, lt_irrefl, mul_positive, whole_positive}
use Rattle.rational.proofs.OrderLaws.{not-le_of_lt}
use Rattle.rational.proofs.Bounds.{half-two}
use Rattle.rational.proofs.Vectors.{length-rows_dot, dot_comm, dot-zeros_right, dot-add_left}
use Rattle.rational.proofs.Forms.{expansion, form_comm, null_of_form}
use Rattle.equational_law.specs.Form.{Form}
use Rattle.equational_law.specs.Solutions.{IsForm, IsSolution, IsFormRay}
use Rattle.face_descent_law.specs.Small.{height, slope}
use Rattle.face_descent_law.specs.Step.{distance, moved}
use Rattle.face_descent_law.proofs.Moves.{ratio_positive, solution_there}
use Rattle.quad_solve_law.specs.Steps.{LeadsDown, IsPriceStep, curvature}
use Rattle.quad_solve_law.proofs.Lists.{some_below}

half_positive : zero_ℚ <ℚ half
half_positive = ⊎_elim
    (λ l. absurd (not-le_of_lt (whole_positive 0) (prove ordered_rationals (half ∷ []) (λ h. lit 1 ≼ lit 0 ⇐ given (h ≼ lit 0) ⊞ given (h ≼ lit 0) ⊞ given (lit 1 ≐ h ⊗ lit 2)) refl l l (sym half-two))))
    (λ l. l) (le_or_lt half zero_ℚ)

module _ (n : ℕ) (f : Form) (z d : List ℚ) (form : IsForm n f) (semi : IsSemidefinite n f.quadratic) (down : LeadsDown f z d) where
  size : length d ≡ n
  size = down.size ∙ form.cost

  curved : zero_ℚ ≤ℚ curvature f d
  curved = semi.nonneg d size

  module _ (s : ℚ) (step : IsPriceStep f z d s) where
    pub step_goes : zero_ℚ <ℚ s
    step_goes = ⊎_elim (λ m. subst (λ t. zero_ℚ <ℚ t) (sym m.there) (far m.place m.falls)) (λ e. ⊎_elim (λ l. absurd (stays l e)) (λ l. l) (le_or_lt s zero_ℚ)) step.met
      where
        far : (j : ℕ) → entry d j <ℚ zero_ℚ → zero_ℚ <ℚ distance z d j
        far j b = let p = down.lessens j b in ratio_positive z d j b (lt_le zero_ℚ (entry z j) p) (λ e. lt_irrefl zero_ℚ (subst (λ t. zero_ℚ <ℚ t) e p))

        stays : s ≤ℚ zero_ℚ → s *ℚ curvature f d ≡ one_ℚ → ⊥
        stays l e = not-le_of_lt (whole_positive 0)
            (prove ordered_rationals (s ∷ curvature f d ∷ [])
            (λ s h. lit 1 ≼ lit 0 ⇐ scaled (minus (lit 1)) (s ⊗ h) (lit 1) ⊞ (given (s ≼ lit 0) ⊠ given (lit 0 ≼ h))) refl e l curved)

    module _ (at : IsSolution f z) where
      same_size : length z ≡ length d
      same_size = at.width ∙ sym down.size

      pub step_solves : IsSolution f (moved z d s)
      step_solves = solution_there n z d s (at.width ∙ form.cost) size f form.cost at down.equal form.right (lt_le zero_ℚ s step_goes) step.within

      pub step_falls : height f (moved z d s) <ℚ height f z
      step_falls =
          prove ordered_rationals (height f (moved z d s) ∷ height f z ∷ s ∷ dot (slope f z) d ∷ curvature f d ∷ half ∷ [])
          (λ a b s g k h. a ≺ b
          ⇐ given (a ≐ b ⊕ s ⊗ g ⊕ h ⊗ (s ⊗ s) ⊗ k) ⊞ scaled s g (minus (lit 1)) ⊞ (given (lit 0 ≼ h ⊗ s) ⊠ given (s ⊗ k ≼ lit 1))
          ⊞ given (lit 0 ≺ h ⊗ s) ⊞ scaled s (h ⊗ lit 2) (lit 1))
          refl (expansion n f.quadratic semi.symmetric f.cost f.constant z s d form.cost same_size) down.falls
          (lt_le zero_ℚ (half *ℚ s) (mul_positive half s half_positive step_goes)) step.minimum (mul_positive half s half_positive step_goes) half-two

  -- without a ray, a direction without curvature lessens some entry
  pub flat_lessens : IsSolution f z → curvature f d ≡ zero_ℚ → ¬ (IsFormRay f d) → (j : ℕ) × (entry d j <ℚ zero_ℚ)
  flat_lessens at flat none = by (some_below d)
    where
      null : rows_dot f.quadratic d ≡ zeros n
      null = null_of_form n f.quadratic semi d size flat

      still : dot (rows_dot f.quadratic z) d ≡ zero_ℚ
      still = dot_comm (rows_dot f.quadratic z) d ∙ form_comm n f.quadratic semi.symmetric d z ∙ ap (dot z) null ∙ dot-zeros_right z n

      slope_is : dot (slope f z) d ≡ dot (rows_dot f.quadratic z) d +ℚ dot f.cost d
      slope_is = dot-add_left (rows_dot f.quadratic z) f.cost d (length-rows_dot f.quadratic z ∙ form.pairs_height ∙ sym form.cost)

      cost_falls : dot f.cost d ≡ neg_ℚ one_ℚ
      cost_falls = prove ordered_rationals (dot f.cost d ∷ dot (slope f z) d ∷ dot (rows_dot f.quadratic z) d ∷ [])
          (λ c g q. c ≐ minus (lit 1) ⇐ scaled (minus (lit 1)) g (q ⊕ c) ⊞ given (g ≐ minus (lit 1)) ⊞ scaled (minus (lit 1)) q (lit 0)) refl slope_is down.falls still

      by : (All (λ x. zero_ℚ ≤ℚ x) d) ⊎ ((j : ℕ) × (entry d j <ℚ zero_ℚ)) → (j : ℕ) × (entry d j <ℚ zero_ℚ)
      by (inr j) = j
      by (inl all) = absurd (none (record { width = down.size; equal = down.equal; flat = null ∙ ap zeros (sym form.pairs_height); falls = cost_falls; not_negative = all }))
