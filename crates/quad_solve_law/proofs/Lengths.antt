-- There is a price step, and its length is told by the direction; how it is computed.
use Rattle.std.proofs.Common.{◌≡◌, ◌≢◌, refl, sym, ◌∙◌, ap, subst, ℕ, inl, inr, ⊎_elim, Bool, true, false, List, [], ◌∷◌, length, if◌then◌else◌}
use Rattle.std.specs.Prelude.{Option, Some, None, ◌↔◌}
use Rattle.algebra.proofs.Polynomial.{minus, ◌⊗◌, ◌≐◌, ◌≼◌, ◌≺◌, lit}
use Rattle.algebra.proofs.Certificate.{prove, given, scaled, weight, ◌⊞◌, ◌⊠◌, ◌⇐◌}
use Rattle.rational.specs.Rational.{ℚ, zero_ℚ, one_ℚ, ◌*ℚ◌, ◌/ℚ◌}
use Rattle.rational.specs.Order.{◌≤ℚ◌, same_fields, same_fields_lem, differ_of_same_fields}
use Rattle.rational.specs.Vectors.{IsSemidefinite}
use Rattle.rational.proofs.Order.{ordered_rationals, div-mul_cancel, lt_irrefl, lt_le, le_antisymm}
use Rattle.rational.proofs.OrderLaws.{le_trans, le_of_eq}
use Rattle.rational.specs.Tests.{is_le}
use Rattle.program_law.proofs.Numbers.{le_tested, lt_tested}
use Rattle.equational_law.specs.Form.{Form}
use Rattle.equational_law.specs.Solutions.{IsForm, IsSolution, IsFormRay}
use Rattle.face_descent_law.specs.Step.{IsWithin, IsNearest}
use Rattle.face_descent_law.specs.Operations.{nearer, nearest_zero}
use Rattle.face_descent_law.proofs.OneStep.{IsToldNearest, nearest_told}
use Rattle.quad_solve_law.specs.Steps.{LeadsDown, IsPriceStep, curvature}
use Rattle.quad_solve_law.specs.Operations.{price_length}
use Rattle.quad_solve_law.proofs.Moves.{step_goes, flat_lessens}

one_is_not_zero : (s h : ℚ) → h ≡ zero_ℚ → s *ℚ h ≡ one_ℚ → ⊥
one_is_not_zero s h e k = lt_irrefl zero_ℚ (prove ordered_rationals (s ∷ h ∷ []) (λ s h. lit 0 ≺ lit 0 ⇐ scaled s h (lit 0) ⊞ given (lit 1 ≐ s ⊗ h) ⊞ weight 1) refl e (sym k))

-- no step is longer than another, so there is only one
module _ (n : ℕ) (f : Form) (z d : List ℚ) (form : IsForm n f) (semi : IsSemidefinite n f.quadratic) (down : LeadsDown f z d) where
  no_longer : (s t : ℚ) → IsPriceStep f z d s → IsPriceStep f z d t → s ≤ℚ t
  no_longer s t one other = ⊎_elim (λ m. subst (λ r. s ≤ℚ r) (sym m.there) (one.within m.place m.falls))
      (λ e. prove ordered_rationals (s ∷ t ∷ curvature f d ∷ [])
      (λ s t h. s ≼ t ⇐ (given (lit 0 ≼ t) ⊠ given (s ⊗ h ≼ lit 1)) ⊞ scaled (minus s) (t ⊗ h) (lit 1)) refl
      (lt_le zero_ℚ t (step_goes n f z d form semi down t other)) one.minimum e) other.met

  pub one_step : (s t : ℚ) → IsPriceStep f z d s → IsPriceStep f z d t → s ≡ t
  one_step s t one other = le_antisymm s t (no_longer s t one other) (no_longer t s other one)

module _ (n : ℕ) (f : Form) (z d : List ℚ) (form : IsForm n f) (semi : IsSemidefinite n f.quadratic) (at : IsSolution f z) (down : LeadsDown f z d) where
  abbrev h : ℚ
  h = curvature f d

  long : length d ≡ n
  long = down.size ∙ form.cost

  wide : length z ≡ n
  wide = at.width ∙ form.cost

  curved : zero_ℚ ≤ℚ h
  curved = semi.nonneg d long

  to_zero : (s : ℚ) → IsNearest z d s → (s *ℚ h) ≤ℚ one_ℚ → IsPriceStep f z d s
  to_zero s k l = record { within = k.within; minimum = l; met = inl k }

  module _ (bent : h ≢ zero_ℚ) where
    abbrev limit : ℚ
    limit = one_ℚ /ℚ h

    limit_is : limit *ℚ h ≡ one_ℚ
    limit_is = div-mul_cancel one_ℚ h bent

    to_minimum : IsWithin z d limit → IsPriceStep f z d limit
    to_minimum w = record { within = w; minimum = le_of_eq limit_is; met = inr limit_is }

    before : (t : ℚ) → t ≤ℚ limit → (t *ℚ h) ≤ℚ one_ℚ
    before t l = prove ordered_rationals (t ∷ limit ∷ h ∷ []) (λ t l h. t ⊗ h ≼ lit 1 ⇐ (given (t ≼ l) ⊠ given (lit 0 ≼ h)) ⊞ scaled (lit 1) (l ⊗ h) (lit 1)) refl l curved limit_is

    bent_step : (o : Option ℚ) → IsToldNearest z d o → IsPriceStep f z d (nearer limit o)
    bent_step None k = to_minimum (λ j b. absurd (k j b))
    bent_step (Some t) k = by (is_le limit t) refl
      where
        by : (b : Bool) → is_le limit t ≡ b → IsPriceStep f z d (if b then limit else t)
        by true e = to_minimum (λ j b. le_trans (le_tested limit t e) (k.within j b))
        by false e = to_zero t k (before t (lt_le t limit (lt_tested limit t e)))

  -- what the length says: there is no price step, or it is one of this length
  abbrev IsToldLength : Option ℚ → Type 0
  IsToldLength None = (s : ℚ) → ¬ (IsPriceStep f z d s)
  IsToldLength (Some s) = IsPriceStep f z d s

  flat_step : h ≡ zero_ℚ → (o : Option ℚ) → IsToldNearest z d o → IsToldLength o
  flat_step flat None k = λ s step. ⊎_elim (λ m. k m.place m.falls) (λ e. one_is_not_zero s h flat e) step.met
  flat_step flat (Some t) k = to_zero t k (prove ordered_rationals (t ∷ h ∷ []) (λ t h. t ⊗ h ≼ lit 1 ⇐ scaled t h (lit 0) ⊞ weight 1) refl flat)

  length_told : IsToldLength (price_length h z d)
  length_told = by (same_fields h zero_ℚ) refl
    where
      told : IsToldNearest z d (nearest_zero z d)
      told = nearest_told z d (wide ∙ sym long)

      by : (b : Bool) → same_fields h zero_ℚ ≡ b → IsToldLength (if b then nearest_zero z d else Some (nearer (one_ℚ /ℚ h) (nearest_zero z d)))
      by true e = flat_step (same_fields_lem h zero_ℚ e) (nearest_zero z d) told
      by false e = bent_step (differ_of_same_fields h zero_ℚ e) (nearest_zero z d) told

  -- without a ray there is one
  pub some_step : ¬ (IsFormRay f d) → (s : ℚ) × IsPriceStep f z d s
  some_step none = by (same_fields h zero_ℚ) refl (nearest_zero z d) (nearest_told z d (wide ∙ sym long))
    where
      flat_some : h ≡ zero_ℚ → (o : Option ℚ) → IsToldNearest z d o → (s : ℚ) × IsPriceStep f z d s
      flat_some e None k = let some = flat_lessens n f z d form semi down at e none in absurd (k some.0 some.1)
      flat_some e (Some t) k = (t, flat_step e (Some t) k)

      by : (b : Bool) → same_fields h zero_ℚ ≡ b → (o : Option ℚ) → IsToldNearest z d o → (s : ℚ) × IsPriceStep f z d s
      by true e o k = flat_some (same_fields_lem h zero_ℚ e) o k
      by false e o k = (nearer (one_ℚ /ℚ h) o, bent_step (differ_of_same_fields h zero_ℚ e) o k)

  pub length_is : (s : ℚ) → IsPriceStep f z d s ↔ (price_length h z d ≡ Some s)
  length_is s = (by (price_length h z d) length_told, λ e. subst IsToldLength e length_told)
    where
      by : (o : Option ℚ) → IsToldLength o → IsPriceStep f z d s → o ≡ Some s
      by None k step = absurd (k s step)
      by (Some t) k step = ap Some (one_step n f z d form semi down t s k step)
