-- Stationary points with the same support.
use Rattle.std.proofs.Common.{◌≡◌, refl, sym, ◌∙◌, ap, subst, ℕ, Bool, true, false, List, [], ◌∷◌, length, arith}
use Rattle.algebra.proofs.Ring as laws
use Rattle.algebra.proofs.Polynomial.{minus, ◌⊕◌, ◌⊝◌, ◌⊗◌, ◌≐◌, lit}
use Rattle.algebra.proofs.Certificate.{prove, given, scaled, ◌⊞◌, ◌⇐◌}
use Rattle.algebra.proofs.Solver.{ring}
use Rattle.rational.specs.Rational.{ℚ, zero_ℚ, one_ℚ, neg_ℚ, ◌+ℚ◌, ◌*ℚ◌, ◌-ℚ◌}
use Rattle.rational.specs.Order.{◌<ℚ◌, same_fields, same_fields_lem, differ_of_same_fields}
use Rattle.rational.specs.Sums.{entry, half}
use Rattle.rational.specs.Vectors.{dot, add_each, scale, zeros, rows_dot, combine, IsSymmetric}
use Rattle.rational.proofs.Field.{rationals}
use Rattle.rational.proofs.Order.{ordered_rationals, lt_irrefl}
use Rattle.rational.proofs.Vectors.{length-add_each, length-scale, length-combine, entry-add_each, entry-scale, rows_dot-add, rows_dot-scale, dot-zeros_right, dot-add_scale_left, transpose}
use Rattle.rational.proofs.Forms.{mean_gradient}
use Rattle.linear_basis_law.proofs.Verdicts.{dot-zero}
use Rattle.equational_law.specs.Form.{Form}
use Rattle.equational_law.specs.Solutions.{IsForm, IsSolution}
use Rattle.face_descent_law.specs.Small.{HasMultipliers, IsStationary, height, slope}
use Rattle.face_descent_law.proofs.Stationary.{multipliers_of}
use Rattle.quad_solve_law.specs.Steps.{HaveSameSupport}
use Rattle.quad_solve_law.proofs.Descents.{length-slope}

-- a point with multipliers has no slope along a direction that M takes to 0 and that is 0 where the point is
pub no_slope : (n : ℕ) (f : Form) (z d : List ℚ) → IsForm n f → HasMultipliers n f z → rows_dot f.matrix d ≡ zeros (length f.matrix)
    → ((j : ℕ) → entry z j ≡ zero_ℚ → entry d j ≡ zero_ℚ) → dot (slope f z) d ≡ zero_ℚ
no_slope n f z d form has equal off =
    let y = has.multipliers in
    let taken = combine n y f.matrix in
    let same : length (slope f z) ≡ length taken = length-slope n f z form ∙ form.cost ∙ sym (length-combine n y f.matrix form.columns) in
    let both : dot (add_each (slope f z) (scale (neg_ℚ one_ℚ) taken)) d ≡ zero_ℚ = dot-zero (add_each (slope f z) (scale (neg_ℚ one_ℚ) taken)) d
    (λ j l. ap (λ t. t *ℚ entry d j) (entry-add_each (slope f z) (scale (neg_ℚ one_ℚ) taken) j (same ∙ sym (length-scale (neg_ℚ one_ℚ) taken))
    ∙ ap (λ t. entry (slope f z) j +ℚ t) (entry-scale (neg_ℚ one_ℚ) taken j)) ∙ by j (same_fields (entry z j) zero_ℚ) refl) in
    let none : dot taken d ≡ zero_ℚ = sym (transpose n y f.matrix d form.columns) ∙ ap (dot y) equal ∙ dot-zeros_right y (length f.matrix) in
    prove ordered_rationals (dot (slope f z) d ∷ dot taken d ∷ dot (add_each (slope f z) (scale (neg_ℚ one_ℚ) taken)) d ∷ [])
    (λ s g b. s ≐ lit 0 ⇐ scaled (minus (lit 1)) b (s ⊕ minus (lit 1) ⊗ g) ⊞ given (b ≐ lit 0) ⊞ scaled (lit 1) g (lit 0)) refl
    (dot-add_scale_left (slope f z) (neg_ℚ one_ℚ) taken d same) both none
  where
    by : (j : ℕ) (b : Bool) → same_fields (entry z j) zero_ℚ ≡ b → (entry (slope f z) j +ℚ neg_ℚ one_ℚ *ℚ entry (combine n has.multipliers f.matrix) j) *ℚ entry d j ≡ zero_ℚ
    by j true e = ap (λ t. (entry (slope f z) j +ℚ neg_ℚ one_ℚ *ℚ entry (combine n has.multipliers f.matrix) j) *ℚ t) (off j (same_fields_lem (entry z j) zero_ℚ e))
        ∙ laws.mul_zero rationals (entry (slope f z) j +ℚ neg_ℚ one_ℚ *ℚ entry (combine n has.multipliers f.matrix) j)
    by j false e = ap (λ t. (entry (slope f z) j +ℚ neg_ℚ one_ℚ *ℚ t) *ℚ entry d j) (has.same j (differ_of_same_fields (entry z j) zero_ℚ e))
        ∙ ring rationals (entry (slope f z) j ∷ entry d j ∷ []) (λ g d. (g ⊕ minus (lit 1) ⊗ g) ⊗ d ≐ lit 0) refl

pub less_itself : (r : List ℚ) → add_each r (scale (neg_ℚ one_ℚ) r) ≡ zeros (length r)
less_itself [] = refl
less_itself (x ∷ r) = ap (λ t. t ∷ add_each r (scale (neg_ℚ one_ℚ) r)) (ring rationals (x ∷ []) (λ x. x ⊕ minus (lit 1) ⊗ x ≐ lit 0) refl) ∙ ap (λ l. zero_ℚ ∷ l) (less_itself r)

pub there : (z w : List ℚ) → length z ≡ length w → add_each z (scale one_ℚ (add_each w (scale (neg_ℚ one_ℚ) z))) ≡ w
there [] [] e = refl
there [] (y ∷ w) e = absurd (omega arith)
there (x ∷ z) [] e = absurd (omega arith)
there (x ∷ z) (y ∷ w) e =
    ap (λ t. t ∷ add_each z (scale one_ℚ (add_each w (scale (neg_ℚ one_ℚ) z)))) (ring rationals (x ∷ y ∷ []) (λ x y. x ⊕ lit 1 ⊗ (y ⊕ minus (lit 1) ⊗ x) ≐ y) refl)
    ∙ ap (λ l. y ∷ l) (there z w (omega arith))

module _ (n : ℕ) (f : Form) (z w : List ℚ) (form : IsForm n f) (sy : IsSymmetric n f.quadratic) (at : IsSolution f z) (to : IsSolution f w)
    (same : HaveSameSupport z w) (one : HasMultipliers n f z) (other : HasMultipliers n f w) where
  abbrev back : List ℚ
  back = scale (neg_ℚ one_ℚ) z

  abbrev d : List ℚ
  d = add_each w back

  sizes : length w ≡ length back
  sizes = to.width ∙ sym (length-scale (neg_ℚ one_ℚ) z ∙ at.width)

  d_size : length d ≡ length f.cost
  d_size = length-add_each w back sizes ∙ to.width

  equal : rows_dot f.matrix d ≡ zeros (length f.matrix)
  equal = rows_dot-add f.matrix w back sizes ∙ ap (λ u. add_each u (rows_dot f.matrix back)) to.equal
      ∙ ap (add_each f.right) (rows_dot-scale f.matrix (neg_ℚ one_ℚ) z ∙ ap (scale (neg_ℚ one_ℚ)) at.equal)
      ∙ less_itself f.right ∙ ap zeros form.right

  off : (j : ℕ) → entry z j ≡ zero_ℚ → entry w j ≡ zero_ℚ → entry d j ≡ zero_ℚ
  off j a b = entry-add_each w back j sizes ∙ ap (λ t. t +ℚ entry back j) b ∙ ap (λ t. zero_ℚ +ℚ t) (entry-scale (neg_ℚ one_ℚ) z j ∙ ap (λ t. neg_ℚ one_ℚ *ℚ t) a)
      ∙ ring rationals [] (lit 0 ⊕ minus (lit 1) ⊗ lit 0 ≐ lit 0) refl

  pub same_height : height f z ≡ height f w
  same_height =
      let e : add_each z (scale one_ℚ d) ≡ w = there z w (at.width ∙ sym to.width) in
      let first : dot (slope f z) d ≡ zero_ℚ = no_slope n f z d form one equal (λ j a. off j a ((same j).0 a)) in
      let second : dot (slope f w) d ≡ zero_ℚ = no_slope n f w d form other equal (λ j b. off j ((same j).1 b) b) in
      let change : height f w -ℚ height f z ≡ half *ℚ one_ℚ *ℚ (dot (slope f z) d +ℚ dot (slope f w) d) =
      subst (λ x. height f x -ℚ height f z ≡ half *ℚ one_ℚ *ℚ (dot (slope f z) d +ℚ dot (slope f x) d)) e
      (mean_gradient n f.quadratic sy f.cost f.constant z one_ℚ d form.cost (at.width ∙ sym d_size)) in
      prove ordered_rationals (height f z ∷ height f w ∷ half ∷ dot (slope f z) d ∷ dot (slope f w) d ∷ [])
      (λ a b h g k. a ≐ b ⇐ scaled (minus (lit 1)) (b ⊝ a) (h ⊗ lit 1 ⊗ (g ⊕ k)) ⊞ scaled (minus h) g (lit 0) ⊞ scaled (minus h) k (lit 0)) refl change first second

-- so two stationary points with one support have one value
pub one_height : (n : ℕ) (f : Form) (z w : List ℚ) → IsForm n f → IsSymmetric n f.quadratic → IsSolution f z → IsSolution f w
    → HaveSameSupport z w → IsStationary f z → IsStationary f w → height f z ≡ height f w
one_height n f z w form sy at to same one other =
    same_height n f z w form sy at to same (multipliers_of n f z form (at.width ∙ form.cost) one) (multipliers_of n f w form (to.width ∙ form.cost) other)

pub lesser_differs : (n : ℕ) (f : Form) (z w : List ℚ) → IsForm n f → IsSymmetric n f.quadratic → IsSolution f z → IsSolution f w
    → IsStationary f z → IsStationary f w → height f w <ℚ height f z → ¬ (HaveSameSupport z w)
lesser_differs n f z w form sy at to one other less same =
    lt_irrefl (height f w) (subst (λ x. height f w <ℚ x) (one_height n f z w form sy at to same one other) less)
