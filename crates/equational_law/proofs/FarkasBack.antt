-- Multipliers that refute the form go back to a good FARKAS leaf.
use Rattle.std.specs.Prelude.{◌≡◌, ℕ, zero, suc, List, [], ◌∷◌, ◌++◌, length, map}
use Rattle.std.proofs.Common.{◌∙◌, ap, refl}
use Rattle.std.proofs.lemmas.List.{length-map}
use Rattle.algebra.proofs.Polynomial.{◌⊕◌, ◌⊗◌, ◌≐◌, ◌≼◌, ◌≺◌, lit, minus}
use Rattle.algebra.proofs.Solver.{ring}
use Rattle.algebra.proofs.Certificate.{prove, given, scaled, ◌⊞◌, ◌⇐◌}
use Rattle.rational.specs.Rational.{ℚ, zero_ℚ, one_ℚ, neg_ℚ, ◌*ℚ◌}
use Rattle.rational.specs.Sums.{entry}
use Rattle.rational.specs.Vectors.{dot, zeros, combine}
use Rattle.rational.proofs.Field.{rationals}
use Rattle.rational.proofs.Order.{ordered_rationals}
use Rattle.rational.proofs.Vectors.{combine-scale, entry-scale, entry-zeros, length-zeros, dot-zeros_left}
use Rattle.program_law.specs.Program.{Program, IsProgram}
use Rattle.program_law.specs.Region.{Region, IsCrossedRegion}
use Rattle.certificate_law.specs.Leaf.{no_gradient, residual, total, IsGoodFarkas}
use Rattle.equational_law.specs.Standing.{Standing, Above, Below, Free, standing, spread_at, spread, shift}
use Rattle.equational_law.specs.Equations.{right_of}
use Rattle.equational_law.specs.Form.{equations, slacks, width, form_of, multipliers_of}
use Rattle.equational_law.specs.Optimal.{IsRefutation}
use Rattle.equational_law.proofs.Between.{AllAtMost, negated_is_scaled, length-negated}
use Rattle.equational_law.proofs.Equations.{nonneg_entry}
use Rattle.equational_law.proofs.Forms.{dot-map_neg}
use Rattle.equational_law.proofs.Onto.{has_columns, onto}
use Rattle.equational_law.proofs.Residuals.{length-residual, with_no_gradient}

abbrev AllZero : List ℚ → Type 0
AllZero u = (j : ℕ) → entry u j ≡ zero_ℚ

zero-append : (u w : List ℚ) → AllZero u → AllZero w → AllZero (u ++ w)
zero-append [] w h k j = k j
zero-append (x ∷ u) w h k zero = h 0
zero-append (x ∷ u) w h k (suc j) = zero-append u w (λ i. h (suc i)) k j

zero_at : (s : Standing) → AllZero (spread_at s zero_ℚ)
zero_at (Above l) zero = refl
zero_at (Above l) (suc j) = refl
zero_at (Below u) zero = ring rationals [] (minus (lit 0) ≐ lit 0) refl
zero_at (Below u) (suc j) = refl
zero_at Free zero = refl
zero_at Free (suc zero) = ring rationals [] (minus (lit 0) ≐ lit 0) refl
zero_at Free (suc (suc j)) = refl

zero_spread : (region : Region) → AllZero (spread region (zeros (length region)))
zero_spread [] j = refl
zero_spread (b ∷ bs) j = zero-append (spread_at (standing b) zero_ℚ) (spread bs (zeros (length bs))) (zero_at (standing b)) (zero_spread bs) j

pub farkas_back : (p : Program) (region : Region) (y : List ℚ) → IsProgram p → length region ≡ length p.columns → (IsCrossedRegion region → ⊥)
    → IsRefutation (width p region) (form_of p region) y → IsGoodFarkas p region (multipliers_of p region (map neg_ℚ y))
farkas_back p region y good wide uncrossed refutes =
    let f = form_of p region in
    let n = width p region in
    let full : length (map neg_ℚ y) ≡ length (equations p region) = length-negated y ∙ refutes.size ∙ length-map (equations p region) right_of in
    let back = multipliers_of p region (map neg_ℚ y) in
    let s = residual p no_gradient region back in
    let columns = has_columns p region (map neg_ℚ y) good full in
    let negated : (j : ℕ) → entry (combine n (map neg_ℚ y) f.matrix) j ≡ neg_ℚ one_ℚ *ℚ entry (combine n y f.matrix) j =
    λ j. ap (λ (u : List ℚ). entry (combine n u f.matrix) j) (negated_is_scaled y)
    ∙ ap (λ (u : List ℚ). entry u j) (combine-scale n (neg_ℚ one_ℚ) y f.matrix columns)
    ∙ entry-scale (neg_ℚ one_ℚ) (combine n y f.matrix) j in
    let nothing : AllZero (spread region (zeros (length region)) ++ zeros (slacks p region)) =
    zero-append (spread region (zeros (length region))) (zeros (slacks p region)) (zero_spread region) (entry-zeros (slacks p region)) in
    let below : AllAtMost (combine n (map neg_ℚ y) f.matrix) (spread region (zeros (length region)) ++ zeros (slacks p region)) =
    λ j. prove ordered_rationals
    (entry (combine n (map neg_ℚ y) f.matrix) j ∷ entry (combine n y f.matrix) j ∷ entry (spread region (zeros (length region)) ++ zeros (slacks p region)) j ∷ [])
    (λ a b c. a ≼ c ⇐ given (lit 0 ≼ b) ⊞ given (a ≐ minus (lit 1) ⊗ b) ⊞ scaled (minus (lit 1)) c (lit 0)) refl
    (nonneg_entry (combine n y f.matrix) j refutes.not_negative) (negated j) (nothing j) in
    let all = onto p region (map neg_ℚ y) good full (zeros (length region)) s (length-zeros (length region)) (length-residual p no_gradient region back)
    (λ x h. with_no_gradient p region back x h) uncrossed below in
    record {
      has_sides = record { rows = all.0; columns = all.1 };
      above = prove ordered_rationals (dot (map neg_ℚ y) f.right ∷ dot y f.right ∷ dot (zeros (length region)) (shift region) ∷ total p no_gradient region back ∷ [])
          (λ a b c t. lit 0 ≺ t ⇐ given (b ≺ lit 0) ⊞ given (a ⊕ c ≼ t) ⊞ scaled (minus (lit 1)) a (minus b) ⊞ scaled (minus (lit 1)) c (lit 0)) refl
          refutes.below all.2 (dot-map_neg y f.right) (dot-zeros_left (length region) (shift region));
    }
