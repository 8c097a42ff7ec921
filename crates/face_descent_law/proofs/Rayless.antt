-- Without a ray of the form, some entry falls to 0 along a direction of a refutation.
use Rattle.std.proofs.Common.{◌≡◌, refl, sym, ◌∙◌, ap, subst, ℕ, List, [], ◌∷◌, length, ⊎_elim}
use Rattle.std.proofs.lemmas.List.Elements.{All-from_get_or}
use Rattle.algebra.proofs.Polynomial.{minus, ◌⊗◌, ◌≐◌, ◌≺◌, lit}
use Rattle.algebra.proofs.Certificate.{prove, given, scaled, ◌⇐◌}
use Rattle.rational.specs.Rational.{ℚ, zero_ℚ, one_ℚ, ◌*ℚ◌, neg_ℚ, reciprocal}
use Rattle.rational.specs.Order.{◌≤ℚ◌, ◌<ℚ◌}
use Rattle.rational.specs.Sums.{entry}
use Rattle.rational.specs.Vectors.{dot, scale, zeros, rows_dot}
use Rattle.rational.proofs.Field.{mul-reciprocal}
use Rattle.rational.proofs.Order.{ordered_rationals, le_or_lt, lt_le, mul_nonneg}
use Rattle.rational.proofs.OrderLaws.{ne_of_lt, reciprocal_positive}
use Rattle.rational.proofs.Vectors.{length-scale, dot-scale_right, entry-scale, rows_dot-scale}
use Rattle.equational_law.specs.Form.{Form}
use Rattle.equational_law.specs.Solutions.{IsForm, IsFormRay, IsNotNegative}
use Rattle.face_descent_law.specs.Step.{IsNearest}
use Rattle.face_descent_law.proofs.Directions.{scale-zeros}
use Rattle.face_descent_law.proofs.Moves.{nearest_or_none}

up : (c : ℚ) → c <ℚ zero_ℚ → zero_ℚ <ℚ neg_ℚ c
up c h = prove ordered_rationals (c ∷ []) (λ c. lit 0 ≺ minus c ⇐ given (c ≺ lit 0)) refl h

falls_by_one : (c i : ℚ) → neg_ℚ c *ℚ i ≡ one_ℚ → i *ℚ c ≡ neg_ℚ one_ℚ
falls_by_one c i e = prove ordered_rationals (c ∷ i ∷ []) (λ c i. i ⊗ c ≐ minus (lit 1) ⇐ scaled (minus (lit 1)) (minus c ⊗ i) (lit 1)) refl e

module _ (n : ℕ) (f : Form) (d : List ℚ) (is : IsForm n f) (long : length d ≡ n) (keeps : rows_dot f.matrix d ≡ zeros (length f.matrix)) (flat : rows_dot f.quadratic d ≡ zeros n) (falls : dot f.cost d <ℚ zero_ℚ) where
  abbrev t : ℚ
  t = neg_ℚ (dot f.cost d)

  t_positive : zero_ℚ <ℚ t
  t_positive = up (dot f.cost d) falls

  ray : ((j : ℕ) → ¬ (entry d j <ℚ zero_ℚ)) → IsFormRay f (scale (reciprocal t) d)
  ray none = record {
    width = length-scale (reciprocal t) d ∙ long ∙ sym is.cost;
    equal = rows_dot-scale f.matrix (reciprocal t) d ∙ ap (scale (reciprocal t)) keeps ∙ scale-zeros (reciprocal t) (length f.matrix);
    flat = rows_dot-scale f.quadratic (reciprocal t) d ∙ ap (scale (reciprocal t)) flat ∙ scale-zeros (reciprocal t) n ∙ ap zeros (sym is.pairs_height);
    falls = dot-scale_right f.cost (reciprocal t) d ∙ falls_by_one (dot f.cost d) (reciprocal t) (mul-reciprocal t (ne_of_lt t_positive));
    not_negative = All-from_get_or IsNotNegative (scale (reciprocal t) d) zero_ℚ (λ j b.
        subst (λ x. zero_ℚ ≤ℚ x) (sym (entry-scale (reciprocal t) d j))
        (mul_nonneg (reciprocal t) (entry d j) (lt_le _ _ (reciprocal_positive t_positive)) (⊎_elim (λ k. k) (λ k. absurd (none j k)) (le_or_lt zero_ℚ (entry d j)))));
  }

  pub nearest_without_ray : (z : List ℚ) → ((r : List ℚ) → ¬ (IsFormRay f r)) → (s : ℚ) × IsNearest z d s
  nearest_without_ray z rayless = ⊎_elim (λ h. h) (λ none. absurd (rayless (scale (reciprocal t) d) (ray none))) (nearest_or_none z d)
