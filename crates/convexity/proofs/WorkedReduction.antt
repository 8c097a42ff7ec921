-- Worked reductions, by computing.
use Rattle.std.specs.Prelude.{◌≡◌, ℕ, ℤ, pos, neg_ℤ, List, [], ◌∷◌, map, Result, Ok, Err}
use Rattle.std.proofs.Common.{refl}
use Rattle.rational.specs.Divisors.{gcd_of}
use Rattle.rational.specs.Rational.{ℚ, whole, fraction, ratio, neg_ℚ, reciprocal, ◌+ℚ◌, ◌*ℚ◌}
use Rattle.frac_core.specs.Parts.{max_part}
use Rattle.frac_core.specs.Dot.{dot_step, dot_from, place_ops, dot_ops_from}
use Rattle.frac_core.specs.Row.{less_step, row_less}
use Rattle.frac_core.specs.declared.fractions.Op.{Op}
use Rattle.frac_core.specs.declared.fractions.Op.TheVariants.{Add, Sub, Mul, Div}
use Rattle.frac_core.specs.declared.fractions.Refused.{Refused}
use Rattle.program_law.specs.declared.Square.{Square}
use Rattle.elimination_law.specs.Calculation.{divide_step, divided_in}
use Rattle.elimination_law.specs.Operations.{division_ops, less_ops}
use Rattle.convexity.specs.declared.Curvature.{Curvature}
use Rattle.convexity.specs.declared.Curvature.TheVariants.{Squares, Negative}
use Rattle.convexity.specs.Reduction.{curvature_from, curvature_of}
use Rattle.convexity.specs.ReductionCalculation.{less_product, squares_from, squares_of}
use Rattle.convexity.specs.ReductionOperations.{squares_ops_from, squares_ops}

abbrev n : ℕ → ℚ
n k = whole (pos k)

abbrev minus : ℕ → ℚ
minus k = whole (neg_ℤ (pos k))

-- a matrix of two rows
abbrev two : ℚ → ℚ → ℚ → List (List ℚ)
two a b c = (a ∷ b ∷ []) ∷ (b ∷ c ∷ []) ∷ []

-- the parts of the lowest terms tell numbers apart
abbrev part : ℚ → ℤ × ℕ
part q = (q.num, q.den)

abbrev parts : List ℚ → List (ℤ × ℕ)
parts row = map (λ q. part q) row

abbrev square_parts : List Square → List (List (ℤ × ℕ))
square_parts ss = map (λ s. part s.weight ∷ parts s.coef) ss

abbrev operation_parts : List Refused → List (Op × ℤ × ℕ × ℤ × ℕ)
operation_parts os = map (λ o. (o.op, o.left.num, o.left.den, o.right.num, o.right.den)) os

abbrev Same : Curvature → Curvature → Type 0
Same (Squares ss) (Squares ts) = square_parts ss ≡ square_parts ts
Same (Negative z) (Negative u) = parts z ≡ parts u
Same (Squares ss) (Negative u) = ⊥
Same (Negative z) (Squares ts) = ⊥

-- 2 x^2 + 8 y^2
apart : Same (curvature_of (two (n 2) (n 0) (n 8))) (Squares (record { weight = n 2; coef = n 1 ∷ n 0 ∷ [] } ∷ record { weight = n 8; coef = n 0 ∷ n 1 ∷ [] } ∷ []))
unfolding ◌+ℚ◌ ◌*ℚ◌ neg_ℚ ratio gcd_of whole reciprocal curvature_from
apart = refl

-- 2 (x + y)^2
together : Same (curvature_of (two (n 2) (n 2) (n 2))) (Squares (record { weight = n 2; coef = n 1 ∷ n 1 ∷ [] } ∷ []))
unfolding ◌+ℚ◌ ◌*ℚ◌ neg_ℚ ratio gcd_of whole reciprocal curvature_from
together = refl

-- 2 x y
mixed : Same (curvature_of (two (n 0) (n 1) (n 0))) (Negative (n 1 ∷ minus 1 ∷ []))
unfolding ◌+ℚ◌ ◌*ℚ◌ neg_ℚ ratio gcd_of whole reciprocal curvature_from
mixed = refl

-- 2 x y + 2 y^2
mixed_above : Same (curvature_of (two (n 0) (n 1) (n 2))) (Negative (n 1 ∷ fraction (neg_ℤ (pos 1)) 2 ∷ []))
unfolding ◌+ℚ◌ ◌*ℚ◌ neg_ℚ ratio gcd_of whole reciprocal curvature_from
mixed_above = refl

-- x^2 + 4 x y + y^2
carried : Same (curvature_of (two (n 1) (n 2) (n 1))) (Negative (minus 2 ∷ n 1 ∷ []))
unfolding ◌+ℚ◌ ◌*ℚ◌ neg_ℚ ratio gcd_of whole reciprocal curvature_from
carried = refl

-- and its operations
carried_operations : operation_parts (squares_ops (two (n 1) (n 2) (n 1)))
    ≡ (Div, pos 2, 1, pos 1, 1) ∷ (Mul, pos 2, 1, pos 2, 1) ∷ (Sub, pos 1, 1, pos 4, 1) ∷ (Mul, pos 2, 1, pos 1, 1) ∷ (Add, pos 0, 1, pos 2, 1) ∷ []
unfolding ◌+ℚ◌ ◌*ℚ◌ neg_ℚ ratio gcd_of whole reciprocal curvature_from squares_ops_from division_ops less_ops place_ops dot_ops_from
carried_operations = refl

-- the calculation answers the same
abbrev SameAnswer : Result Curvature Refused → Curvature → Type 0
SameAnswer (Ok c) d = Same c d
SameAnswer (Err r) d = ⊥

calculated : SameAnswer (squares_of (two (n 1) (n 2) (n 1))) (Negative (minus 2 ∷ n 1 ∷ []))
unfolding ◌+ℚ◌ ◌*ℚ◌ neg_ℚ ratio gcd_of whole reciprocal squares_from divide_step divided_in less_product less_step row_less dot_step dot_from
calculated = refl

-- 3 x^2 and 2 top x y, with top the greatest part: the product of top and top / 3 is refused
abbrev IsRefusal : Result Curvature Refused → Op → ℚ → ℚ → Type 0
IsRefusal (Ok c) op p q = ⊥
IsRefusal (Err r) op p q = (r.op ≡ op) × (part r.left ≡ part p) × (part r.right ≡ part q)

refused : IsRefusal (squares_of (two (n 3) (n max_part) (n 0))) Mul (n max_part) (fraction (pos max_part) 3)
unfolding ◌+ℚ◌ ◌*ℚ◌ neg_ℚ ratio gcd_of whole reciprocal squares_from divide_step divided_in less_product less_step row_less dot_step dot_from
refused = (refl, refl, refl)
