-- Multipliers that make a solution of the form optimal go back to a good BOUND leaf for the value of its point.
use Rattle.std.specs.Prelude.{◌≡◌, ◌≢◌, ℕ, zero, suc, ◌+◌, List, [], ◌∷◌, ◌++◌, length, Bool, true, false}
use Rattle.std.proofs.Common.{arith, sym, subst, ◌∙◌, ap, refl}
use Rattle.std.proofs.lemmas.List.{length-map, length-append}
use Rattle.algebra.proofs.Polynomial.{◌⊕◌, ◌⊝◌, ◌⊗◌, ◌≐◌, lit, minus}
use Rattle.algebra.proofs.Solver.{ring}
use Rattle.algebra.proofs.Certificate.{prove, scaled, ◌⇐◌}
use Rattle.rational.specs.Rational.{ℚ, zero_ℚ, one_ℚ, ◌+ℚ◌, ◌-ℚ◌, ◌*ℚ◌}
use Rattle.rational.specs.Order.{◌≤ℚ◌, same_fields, same_fields_lem, differ_of_same_fields}
use Rattle.rational.specs.Sums.{entry}
use Rattle.rational.specs.Vectors.{dot, zeros, add_each, rows_dot, combine}
use Rattle.rational.specs.Vectors as vectors
use Rattle.rational.proofs.Field.{rationals}
use Rattle.rational.proofs.Order.{ordered_rationals, le_antisymm}
use Rattle.rational.proofs.OrderLaws.{le_of_eq, le_trans}
use Rattle.rational.proofs.Vectors.{transpose, rows_dot-add, dot-add_left, dot-add_right, length-rows_dot, length-combine, length-add_each, length-zeros}
use Rattle.program_law.specs.Program.{Program, IsProgram}
use Rattle.program_law.specs.Region.{Region, IsCrossedRegion}
use Rattle.program_law.specs.Value.{half}
use Rattle.program_law.specs.Columns.{value, IsRelaxedPoint}
use Rattle.certificate_law.specs.Leaf.{gradient, residual, HasAllSides, total, lower_bound, IsGoodBound}
use Rattle.program_law.proofs.Squared.{halves}
use Rattle.certificate_law.proofs.Leaves.{total_le}
use Rattle.equational_law.specs.Standing.{Standing, Above, Below, Free, standing, spread_at, spread, shift, change, parts}
use Rattle.equational_law.specs.Equations.{right_of}
use Rattle.equational_law.specs.Form.{equations, slacks, width, padded, form_of, point_of, multipliers_of}
use Rattle.equational_law.specs.Optimal.{IsOptimality}
use Rattle.equational_law.specs.Solutions.{IsSolution}
use Rattle.equational_law.proofs.Adjoint.{adjoint, length-spread, length-spread_at, length-change, length-shift}
use Rattle.equational_law.proofs.Between.{AllAtMost}
use Rattle.equational_law.proofs.Forms.{dot-padded, products}
use Rattle.equational_law.proofs.Onto.{has_columns, onto}
use Rattle.equational_law.proofs.Points.{point_back}
use Rattle.equational_law.proofs.Residuals.{length-residual, with_gradient}

-- ---- the form's gradient is the program's, spread

add-append : (u a v b : List ℚ) → length u ≡ length v → add_each (u ++ a) (v ++ b) ≡ add_each u v ++ add_each a b
add-append [] a [] b h = refl
add-append [] a (y ∷ v) b h = absurd (omega arith)
add-append (x ∷ u) a [] b h = absurd (omega arith)
add-append (x ∷ u) a (y ∷ v) b h = ap (λ l. (x +ℚ y) ∷ l) (add-append u a v b (omega arith))

add-zeros : (n : ℕ) → add_each (zeros n) (zeros n) ≡ zeros n
add-zeros zero = refl
add-zeros (suc n) = ap (λ l. (zero_ℚ +ℚ zero_ℚ) ∷ l) (add-zeros n) ∙ ap (λ x. x ∷ zeros n) (rationals.add_zero zero_ℚ)

add_at : (s : Standing) (x y : ℚ) → add_each (spread_at s x) (spread_at s y) ≡ spread_at s (x +ℚ y)
add_at (Above l) x y = refl
add_at (Below u) x y = ap (λ t. t ∷ []) (ring rationals (x ∷ y ∷ []) (λ x y. minus x ⊕ minus y ≐ minus (x ⊕ y)) refl)
add_at Free x y = ap (λ t. (x +ℚ y) ∷ t ∷ []) (ring rationals (x ∷ y ∷ []) (λ x y. minus x ⊕ minus y ≐ minus (x ⊕ y)) refl)

add_spread : (region : Region) (u v : List ℚ) → length u ≡ length region → length v ≡ length region → add_each (spread region u) (spread region v) ≡ spread region (add_each u v)
add_spread [] u v h k = refl
add_spread (b ∷ bs) [] v h k = absurd (omega arith)
add_spread (b ∷ bs) (x ∷ u) [] h k = absurd (omega arith)
add_spread (b ∷ bs) (x ∷ u) (y ∷ v) h k =
    let s = standing b in
    add-append (spread_at s x) (spread bs u) (spread_at s y) (spread bs v) (length-spread_at s x ∙ sym (length-spread_at s y))
    ∙ ap (λ l. l ++ add_each (spread bs u) (spread bs v)) (add_at s x y)
    ∙ ap (λ l. spread_at s (x +ℚ y) ++ l) (add_spread bs u v (omega arith) (omega arith))

-- a + (c + b) is (b + a) + c
regrouped : (a b c : List ℚ) → length b ≡ length a → length c ≡ length a → add_each a (add_each c b) ≡ add_each (add_each b a) c
regrouped [] [] [] h k = refl
regrouped [] [] (z ∷ c) h k = absurd (omega arith)
regrouped [] (y ∷ b) c h k = absurd (omega arith)
regrouped (x ∷ a) [] c h k = absurd (omega arith)
regrouped (x ∷ a) (y ∷ b) [] h k = absurd (omega arith)
regrouped (x ∷ a) (y ∷ b) (z ∷ c) h k =
    ap (λ l. (x +ℚ (z +ℚ y)) ∷ l) (regrouped a b c (omega arith) (omega arith))
    ∙ ap (λ t. t ∷ add_each (add_each b a) c) (ring rationals (x ∷ y ∷ z ∷ []) (λ x y z. x ⊕ (z ⊕ y) ≐ (y ⊕ x) ⊕ z) refl)

-- the program's gradient at w
abbrev pub gradient_list : Program → List ℚ → List ℚ
gradient_list p w = add_each (rows_dot p.pairs w) p.costs

pub gradient_spread : (p : Program) (region : Region) (z : List ℚ) → length p.pairs ≡ length region → length p.costs ≡ length region
    → vectors.gradient (form_of p region).quadratic (form_of p region).cost z ≡ spread region (gradient_list p (point_of region z)) ++ zeros (slacks p region)
gradient_spread p region z pairs costs =
    let n = slacks p region in
    let d = change region z in
    let a = rows_dot p.pairs d in
    let b = rows_dot p.pairs (shift region) in
    let c = add_each p.costs b in
    let wide_a : length a ≡ length region = length-rows_dot p.pairs d ∙ pairs in
    let wide_b : length b ≡ length region = length-rows_dot p.pairs (shift region) ∙ pairs in
    let wide_c : length c ≡ length region = length-add_each p.costs b (costs ∙ sym wide_b) ∙ costs in
    ap (λ l. add_each l (padded n (spread region c))) (products p region z pairs)
    ∙ add-append (spread region a) (zeros n) (spread region c) (zeros n) (length-spread region a ∙ sym (length-spread region c))
    ∙ ap (λ l. add_each (spread region a) (spread region c) ++ l) (add-zeros n)
    ∙ ap (λ l. l ++ zeros n)
    (add_spread region a c wide_a wide_c
    ∙ ap (spread region)
    (regrouped a b p.costs (wide_b ∙ sym wide_a) (costs ∙ sym wide_a)
    ∙ ap (λ l. add_each l p.costs) (sym (rows_dot-add p.pairs (shift region) d (length-shift region ∙ sym (length-change region z))))))

-- ---- equal on the support of z

same_times : (x y a : ℚ) → (a ≢ zero_ℚ → x ≡ y) → x *ℚ a ≡ y *ℚ a
same_times x y a h = by (same_fields a zero_ℚ) refl
  where
    by : (t : Bool) → same_fields a zero_ℚ ≡ t → x *ℚ a ≡ y *ℚ a
    by true e = prove ordered_rationals (x ∷ y ∷ a ∷ []) (λ x y a. x ⊗ a ≐ y ⊗ a ⇐ scaled (y ⊝ x) (lit 0) a) refl (sym (same_fields_lem a zero_ℚ e))
    by false e = ap (λ t. t *ℚ a) (h (differ_of_same_fields a zero_ℚ e))

same_on_support : (u v z : List ℚ) → length u ≡ length v → ((j : ℕ) → entry z j ≢ zero_ℚ → entry u j ≡ entry v j) → dot u z ≡ dot v z
same_on_support [] [] z e h = refl
same_on_support [] (y ∷ v) z e h = absurd (omega arith)
same_on_support (x ∷ u) [] z e h = absurd (omega arith)
same_on_support (x ∷ u) (y ∷ v) [] e h = refl
same_on_support (x ∷ u) (y ∷ v) (a ∷ z) e h =
    ap (λ t. t +ℚ dot u z) (same_times x y a (h 0)) ∙ ap (λ t. y *ℚ a +ℚ t) (same_on_support u v z (omega arith) (λ j. h (suc j)))

-- ---- the leaf

-- c0 - ½ f + (f + c) is ½ f + c + c0
value_of_sum : (s f c c0 : ℚ) → s +ℚ s ≡ one_ℚ → c0 -ℚ s *ℚ f +ℚ (f +ℚ c) ≡ s *ℚ f +ℚ c +ℚ c0
value_of_sum s f c c0 h = prove ordered_rationals (s ∷ f ∷ c ∷ c0 ∷ []) (λ s f c c0. c0 ⊝ s ⊗ f ⊕ (f ⊕ c) ≐ s ⊗ f ⊕ c ⊕ c0 ⇐ scaled (minus f) (s ⊕ s) (lit 1)) refl h

module _ (p : Program) (region : Region) (z y : List ℚ) (good : IsProgram p) (wide : length region ≡ length p.columns) (uncrossed : IsCrossedRegion region → ⊥)
    (solution : IsSolution (form_of p region) z) (optimal : IsOptimality (width p region) (form_of p region) z y) where
  w : List ℚ
  w = point_of region z

  back : List ℚ
  back = multipliers_of p region y

  full : length y ≡ length (equations p region)
  full = optimal.size ∙ length-map (equations p region) right_of

  pairs : length p.pairs ≡ length region
  pairs = good.pairs_height ∙ sym wide

  costs : length p.costs ≡ length region
  costs = good.costs_width ∙ sym wide

  length_w : length w ≡ length region
  unfolding w
  length_w = length-add_each (shift region) (change region z) (length-shift region ∙ sym (length-change region z)) ∙ length-shift region

  length_g : length (gradient_list p w) ≡ length region
  length_g = length-add_each (rows_dot p.pairs w) p.costs (length-rows_dot p.pairs w ∙ pairs ∙ sym costs) ∙ length-rows_dot p.pairs w ∙ pairs

  spread_gradient : vectors.gradient (form_of p region).quadratic (form_of p region).cost z ≡ spread region (gradient_list p w) ++ zeros (slacks p region)
  unfolding w
  spread_gradient = gradient_spread p region z pairs costs

  columns : vectors.HasColumns (width p region) (form_of p region).matrix
  columns = has_columns p region y good full

  below : AllAtMost (combine (width p region) y (form_of p region).matrix) (spread region (gradient_list p w) ++ zeros (slacks p region))
  below j = subst (λ (l : List ℚ). entry (combine (width p region) y (form_of p region).matrix) j ≤ℚ entry l j) spread_gradient (optimal.at_most j)

  -- y · r is the gradient along T z
  right_side : dot y (form_of p region).right ≡ dot (gradient_list p w) (change region z)
  right_side =
      let f = form_of p region in
      let u = combine (width p region) y f.matrix in
      let g = spread region (gradient_list p w) in
      let long : length u ≡ length (g ++ zeros (slacks p region)) =
      length-combine (width p region) y f.matrix columns
      ∙ sym (length-append g (zeros (slacks p region)) ∙ ap (λ (n : ℕ). n + length (zeros (slacks p region))) (length-spread region (gradient_list p w))
      ∙ ap (λ (n : ℕ). parts region + n) (length-zeros (slacks p region))) in
      ap (dot y) (sym solution.equal) ∙ transpose (width p region) y f.matrix z columns
      ∙ same_on_support u (g ++ zeros (slacks p region)) z long
      (λ j h. optimal.on_support j h ∙ ap (λ (l : List ℚ). entry l j) spread_gradient)
      ∙ dot-padded (slacks p region) g z ∙ adjoint region (gradient_list p w) z

  at_point : dot y (form_of p region).right +ℚ dot (gradient_list p w) (shift region) ≡ dot (gradient_list p w) w
  unfolding w
  at_point =
      let g = gradient_list p (point_of region z) in
      ap (λ t. t +ℚ dot g (shift region)) right_side
      ∙ ring rationals (dot g (change region z) ∷ dot g (shift region) ∷ []) (λ a b. a ⊕ b ≐ b ⊕ a) refl
      ∙ sym (dot-add_right g (shift region) (change region z) (length-shift region ∙ sym (length-change region z)))

  all_sides : HasAllSides p (gradient p w) region back × (dot (gradient_list p w) w ≤ℚ total p (gradient p w) region back)
  unfolding back
  all_sides =
      let s = residual p (gradient p w) region (multipliers_of p region y) in
      let all = onto p region y good full (gradient_list p w) s length_g (length-residual p (gradient p w) region (multipliers_of p region y))
      (λ x h. with_gradient p w region (multipliers_of p region y) x h (pairs ∙ sym costs)) uncrossed below in
      (record { rows = all.0; columns = all.1 }, le_trans (le_of_eq (sym at_point)) all.2)

  relaxed : IsRelaxedPoint p region w
  unfolding w
  relaxed = point_back p region z good wide solution

  total_is : total p (gradient p w) region back ≡ dot (rows_dot p.pairs w) w +ℚ dot p.costs w
  total_is =
      let g = gradient_list p w in
      le_antisymm _ _
      (le_trans (total_le p (gradient p w) region back w all_sides.0 relaxed)
      (le_of_eq (with_gradient p w region back w length_w (pairs ∙ sym costs))))
      all_sides.1
      ∙ dot-add_left (rows_dot p.pairs w) p.costs w (length-rows_dot p.pairs w ∙ pairs ∙ sym costs)

  exact_here : lower_bound p region w back ≡ value p w
  exact_here =
      ap (λ t. p.constant -ℚ half *ℚ dot (rows_dot p.pairs w) w +ℚ t) total_is
      ∙ value_of_sum half (dot (rows_dot p.pairs w) w) (dot p.costs w) p.constant halves

  -- what the leaf says is the value
  pub bound_exact : lower_bound p region (point_of region z) (multipliers_of p region y) ≡ value p (point_of region z)
  unfolding w back
  bound_exact = exact_here

  pub bound_back : IsGoodBound p (value p (point_of region z)) region (point_of region z) (multipliers_of p region y)
  unfolding w back
  bound_back = record { has_sides = all_sides.0; enough = le_of_eq (sym exact_here) }
