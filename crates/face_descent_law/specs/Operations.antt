-- The operations of the face calculation at a point z of a form, in order, over exact values: the gradient, the elimination of the small
-- system, and the move along the direction that it gives.
use Rattle.std.specs.Prelude.{ℕ, List, [], ◌∷◌, ◌++◌, Option, Some, None, if◌then◌else◌}
use Rattle.rational.specs.Rational.{ℚ, zero_ℚ, one_ℚ, neg_ℚ, ◌*ℚ◌, ◌/ℚ◌}
use Rattle.rational.specs.Order.{same_fields}
use Rattle.rational.specs.Vectors.{dot, scale}
use Rattle.frac_core.specs.declared.fractions.Op.TheVariants.{Add, Mul, Div}
use Rattle.frac_core.specs.declared.fractions.Refused.{Refused}
use Rattle.frac_core.specs.Operations.{operation}
use Rattle.frac_core.specs.Dot.{dot_ops}
use Rattle.rational.specs.Tests.{is_negative, is_positive, is_le}
use Rattle.elimination_law.specs.Answers.{Answer, Solution, Refutation, lines_of, solve_rows}
use Rattle.elimination_law.specs.Operations.{elimination_ops}
use Rattle.equational_law.specs.Form.{Form}
use Rattle.face_descent_law.specs.Small.{slope, support, small_rows, small_right, small_width, small_answer}
use Rattle.face_descent_law.specs.Step.{on_support}

-- for each row of Q its product with z, and that plus the cost
abbrev pub slope_ops : List (List ℚ) → List ℚ → List ℚ → List Refused
slope_ops [] cs z = []
slope_ops (row ∷ rows) [] z = []
slope_ops (row ∷ rows) (c ∷ cs) z = dot_ops row z ++ (operation Add (dot row z) c ∷ slope_ops rows cs z)

-- the gradient at z
abbrev pub gradient_ops : Form → List ℚ → List Refused
gradient_ops f z = slope_ops f.quadratic f.cost z

-- the elimination of the small system at z
abbrev pub small_ops : Form → List ℚ → List Refused
small_ops f z =
    elimination_ops (small_width f (support z))
    (lines_of (solve_rows (small_rows f (support z)) (small_right f (support z) (slope f z))))

-- ---- moves

-- the smaller of s and a number that may be absent
abbrev pub nearer : ℚ → Option ℚ → ℚ
nearer s None = s
nearer s (Some t) = if is_le s t then s else t

-- the nearest zero of z along d; there is none where no entry of d is below 0
abbrev pub nearest_zero : List ℚ → List ℚ → Option ℚ
nearest_zero [] d = None
nearest_zero (x ∷ z) [] = None
nearest_zero (x ∷ z) (y ∷ d) = if is_negative y then Some (nearer (x /ℚ neg_ℚ y) (nearest_zero z d)) else nearest_zero z d

-- the quotients that it is found by: z_j / d_j at each place where d_j is below 0
abbrev pub zero_ops : List ℚ → List ℚ → List Refused
zero_ops [] d = []
zero_ops (x ∷ z) [] = []
zero_ops (x ∷ z) (y ∷ d) = if is_negative y then operation Div x y ∷ zero_ops z d else zero_ops z d

-- at each place where d_j is not 0: s d_j, and z_j plus that
abbrev pub sum_ops : ℚ → List ℚ → List ℚ → List Refused
sum_ops s [] d = []
sum_ops s (x ∷ z) [] = []
sum_ops s (x ∷ z) (y ∷ d) =
    if same_fields y zero_ℚ then sum_ops s z d
    else operation Mul s y ∷ operation Add x (s *ℚ y) ∷ sum_ops s z d

-- the move along d to the nearest zero, where there is one
abbrev pub sum_ops_to : Option ℚ → List ℚ → List ℚ → List Refused
sum_ops_to None z d = []
sum_ops_to (Some s) z d = sum_ops s z d

abbrev pub move_ops : List ℚ → List ℚ → List Refused
move_ops z d = zero_ops z d ++ sum_ops_to (nearest_zero z d) z d

-- the move along d as far as a limit, or to the nearest zero where that is nearer
abbrev pub capped_ops : ℚ → List ℚ → List ℚ → List Refused
capped_ops limit z d = zero_ops z d ++ sum_ops (nearer limit (nearest_zero z d)) z d

-- ---- the shrink step

-- the direction of a refutation whose number is v
abbrev pub turned : ℚ → List ℚ → List ℚ
turned v part = if is_positive v then part else scale (neg_ℚ one_ℚ) part

-- the move that an answer of the small system gives, over n columns; a direction of zeros alone moves by no operation
abbrev pub shrink_ops : ℕ → List ℚ → Answer → List Refused
shrink_ops n z (Solution x) = capped_ops one_ℚ z (on_support n z x)
shrink_ops n z (Refutation w v) = move_ops z (turned v (on_support n z w))

-- the face calculation at z, over n columns
abbrev pub face_ops : ℕ → Form → List ℚ → List Refused
face_ops n f z = gradient_ops f z ++ (small_ops f z ++ shrink_ops n z (small_answer f z))
