-- A good BOUND leaf bounds the values on its region, where the form is a sum of squares.
use Rattle.std.specs.Prelude.{◌≡◌, ℕ, List, [], ◌∷◌, pos}
use Rattle.std.proofs.Common.{sym, subst, ◌∙◌, ap, refl}
use Rattle.rational.specs.Divisors.{gcd_of}
use Rattle.rational.specs.Rational.{ℚ, zero_ℚ, one_ℚ, whole, ratio, same_ℚ, ◌+ℚ◌, ◌-ℚ◌, ◌*ℚ◌}
use Rattle.rational.specs.Order.{◌≤ℚ◌}
use Rattle.program_law.proofs.Ring.{ring_by, x0, x1, x2, x3, x4}
use Rattle.algebra.proofs.Polynomial.{◌⊕◌, ◌⊝◌, ◌⊗◌, num}
use Rattle.rational.proofs.Order.{le_refl, lt_le, square_nonneg, mul_nonneg}
use Rattle.rational.proofs.OrderLaws.{le_of_eq, add-le-add, le_trans}
use Rattle.program_law.proofs.Numbers.{le_tested}
use Rattle.program_law.specs.declared.Square.{Square}
use Rattle.rational.specs.Vectors.{dot, form, row_at}
use Rattle.rational.specs.Sums.{entry}
use Rattle.program_law.specs.Region.{Region}
use Rattle.program_law.specs.Program.{Program}
use Rattle.program_law.specs.Value.{half}
use Rattle.program_law.specs.Columns.{IsRelaxedPoint, value}
use Rattle.certificate_law.specs.Leaf.{gradient, IsGoodBound, total}
use Rattle.program_law.proofs.Squared.{convex}
use Rattle.program_law.specs.Squares.{squares_sum, ArePositive, AreSquaresOf}
use Rattle.certificate_law.proofs.Multipliers.{multipliers}
use Rattle.program_law.proofs.Sums.{along, along_zero, dot_along, form_along, along_equal, along_sum, along_scaled}
use Rattle.certificate_law.proofs.Leaves.{total_le}

-- ---- the leaf
gradient_along : (p : Program) (w x : List ℚ) → along (gradient p w) x ≡ form p.pairs w x +ℚ dot p.costs x
gradient_along p w x =
    along_sum (λ j. dot (row_at p.pairs j) w) (entry p.costs) x
    ∙ ap (λ z. z +ℚ along (entry p.costs) x) (sym (form_along p.pairs w x)) ∙ ap (λ z. form p.pairs w x +ℚ z) (sym (dot_along p.costs x))

-- where the form is convex between w and x
pub bounded_where : (p : Program) (v : ℚ) (region : Region) (w y : List ℚ) → IsGoodBound p v region w y → (x : List ℚ) → form p.pairs w x ≤ℚ (half *ℚ form p.pairs x x +ℚ half *ℚ form p.pairs w w) → IsRelaxedPoint p region x → v ≤ℚ value p x
bounded_where p v region w y good x between point =
    let f = form p.pairs in
    let on_sides : total p (gradient p w) region y ≤ℚ (f w x +ℚ dot p.costs x) =
    le_trans (total_le p (gradient p w) region y x good.has_sides point) (le_of_eq (multipliers (gradient p w) p.entries y region x point.columns ∙ gradient_along p w x)) in
    le_trans good.enough
    (le_trans (add-le-add (le_refl (p.constant -ℚ half *ℚ f w w)) (le_trans on_sides (add-le-add between (le_refl (dot p.costs x)))))
    (le_of_eq (ring_by (p.constant ∷ (half *ℚ f w w) ∷ (half *ℚ f x x) ∷ dot p.costs x ∷ []) (x0 ⊝ x1 ⊕ (x2 ⊕ x1 ⊕ x3)) (x2 ⊕ x3 ⊕ x0) refl)))

pub bounded : (p : Program) (qs : List Square) (v : ℚ) (region : Region) (w y : List ℚ) → AreSquaresOf p.pairs qs → IsGoodBound p v region w y → (x : List ℚ) → IsRelaxedPoint p region x → v ≤ℚ value p x
bounded p qs v region w y squares good x point = bounded_where p v region w y good x (convex p.pairs qs w x squares) point
