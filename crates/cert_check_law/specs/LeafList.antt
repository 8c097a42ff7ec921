-- The entries of a leaf's check: for each multiplier that isn't 0 the test of its side (rule 7) and the sum with it; then the test of
-- the leaf's number (rules 8 and 9).
use Rattle.std.specs.Prelude.{ℕ, suc, List, [], ◌∷◌, ◌++◌, Option, Some, None, unwrap_or, true, false, if◌then◌else◌}
use Rattle.rational.specs.Rational.{ℚ, zero_ℚ, ◌+ℚ◌, ◌-ℚ◌, ◌*ℚ◌}
use Rattle.frac_core.specs.declared.fractions.Op.TheVariants.{Add, Sub, Mul}
use Rattle.frac_core.specs.declared.fractions.Refused.{Refused}
use Rattle.frac_core.specs.Operations.{operation}
use Rattle.frac_core.specs.Dot.{dot_ops}
use Rattle.rational.specs.Tests.{is_zero, is_positive}
use Rattle.program_law.specs.declared.Row.{Row}
use Rattle.rational.specs.Vectors.{dot, form, row_at, column}
use Rattle.rational.specs.Sums.{entry}
use Rattle.program_law.specs.Region.{Region}
use Rattle.program_law.specs.Program.{Program, sides}
use Rattle.program_law.specs.Value.{half}
use Rattle.certificate_law.specs.Leaf.{gradient, no_gradient, side_for, sides_sum, total, lower_bound}
use Rattle.cert_check_law.specs.Leaf.{reaches}
use Rattle.cert_check_law.specs.ValueList.{half_form_ops}
use Rattle.cert_check_law.specs.Entries.{Entry, operations, Operation, Test}

-- a multiplier that isn't 0, on top of a sum: the test that its side is there, and the sum with their product
abbrev pub needed_list : ℕ → ℚ → ℚ → Option ℚ → List Entry
needed_list node sum y None = Test false 7 node ∷ []
needed_list node sum y (Some side) = Test true 7 node ∷ Operation (operation Mul y side) ∷ Operation (operation Add sum (y *ℚ side)) ∷ []

-- any multiplier: nothing where it is 0
abbrev pub with_side_list : ℕ → ℚ → ℚ → Row → List Entry
with_side_list node sum y s = if is_zero y then [] else needed_list node sum y (side_for y s)

-- the rows' multipliers, on top of a sum; a side that isn't there counts as 0 behind its test
abbrev pub with_rows_list : ℕ → ℚ → List ℚ → List Row → List Entry
with_rows_list node sum [] ss = []
with_rows_list node sum (y ∷ ys) [] = []
with_rows_list node sum (y ∷ ys) (s ∷ ss) =
    with_side_list node sum y s ++ with_rows_list node (sum +ℚ y *ℚ unwrap_or (side_for y s) zero_ℚ) ys ss

-- the operations of g_j at a BOUND leaf, and at a FARKAS leaf
abbrev pub gradient_at_ops : Program → List ℚ → ℕ → List Refused
gradient_at_ops p w j = dot_ops (row_at p.pairs j) w ++ operation Add (dot (row_at p.pairs j) w) (entry p.costs j) ∷ []

abbrev pub no_gradient_ops : ℕ → List Refused
no_gradient_ops j = []

-- column j, on top of a sum: g_j by its operations, the column of A times y, their difference s, and s as a multiplier
abbrev pub with_column_list : ℕ → (ℕ → List Refused) → (ℕ → ℚ) → List (List ℚ) → List ℚ → ℕ → ℚ → Row → List Entry
with_column_list node ops g rows y j sum b =
    let a = dot (column j rows) y in
    operations (ops j) ++ (operations (dot_ops (column j rows) y) ++ (Operation (operation Sub (g j) a) ∷ with_side_list node sum (g j -ℚ a) b))

-- the columns from j on
abbrev pub with_columns_list : ℕ → (ℕ → List Refused) → (ℕ → ℚ) → List (List ℚ) → List ℚ → ℕ → ℚ → Region → List Entry
with_columns_list node ops g rows y j sum [] = []
with_columns_list node ops g rows y j sum (b ∷ bs) =
    let s = g j -ℚ dot (column j rows) y in
    with_column_list node ops g rows y j sum b ++ with_columns_list node ops g rows y (suc j) (sum +ℚ s *ℚ unwrap_or (side_for s b) zero_ℚ) bs

-- the sum S
abbrev pub leaf_sum_list : Program → ℕ → (ℕ → List Refused) → (ℕ → ℚ) → Region → List ℚ → List Entry
leaf_sum_list p node ops g region y = with_rows_list node zero_ℚ y (sides p) ++ with_columns_list node ops g p.entries y 0 (sides_sum y (sides p)) region

-- S, and that it is above 0 (rule 9)
abbrev pub farkas_list : Program → ℕ → Region → List ℚ → List Entry
farkas_list p node region y = leaf_sum_list p node no_gradient_ops no_gradient region y ++ Test (is_positive (total p no_gradient region y)) 9 node ∷ []

-- S, half the form of w, (c0 - half) + S, and that this reaches the value (rule 8)
abbrev pub bound_list : Program → Option ℚ → ℕ → Region → List ℚ → List ℚ → List Entry
bound_list p v node region w y =
    let curved = half *ℚ form p.pairs w w in
    let s = total p (gradient p w) region y in
    leaf_sum_list p node (gradient_at_ops p w) (gradient p w) region y
    ++ (operations (half_form_ops p.pairs w)
    ++ (Operation (operation Sub p.constant curved) ∷ Operation (operation Add (p.constant -ℚ curved) s) ∷ Test (reaches v (lower_bound p region w y)) 8 node ∷ []))
