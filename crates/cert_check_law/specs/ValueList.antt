-- The operations, in order and over exact values, of the value of a vector: the products Q_j x where x_j isn't 0, h = x q, h / 2, c x,
-- and the two sums.
use Rattle.std.specs.Prelude.{List, [], ◌∷◌, ◌++◌, if◌then◌else◌}
use Rattle.rational.specs.Rational.{ℚ, ◌+ℚ◌, ◌*ℚ◌}
use Rattle.frac_core.specs.declared.fractions.Op.TheVariants.{Add, Div}
use Rattle.frac_core.specs.declared.fractions.Refused.{Refused}
use Rattle.frac_core.specs.Operations.{operation}
use Rattle.frac_core.specs.Dot.{dot_ops}
use Rattle.rational.specs.Tests.{is_zero}
use Rattle.rational.specs.Vectors.{dot, rows_dot, form}
use Rattle.program_law.specs.Program.{Program}
use Rattle.program_law.specs.Value.{half}
use Rattle.cert_check_law.specs.Value.{two}

-- the product of each row with x, where the entry at the row's place isn't 0
abbrev pub row_products_ops : List (List ℚ) → List ℚ → List ℚ → List Refused
row_products_ops [] xs x = []
row_products_ops (row ∷ rows) [] x = []
row_products_ops (row ∷ rows) (xj ∷ xs) x = (if is_zero xj then [] else dot_ops row x) ++ row_products_ops rows xs x

-- the form x^T Q x: the products, and then x times them
abbrev pub form_of_ops : List (List ℚ) → List ℚ → List Refused
form_of_ops q x = row_products_ops q x x ++ dot_ops x (rows_dot q x)

-- half of it
abbrev pub half_form_ops : List (List ℚ) → List ℚ → List Refused
half_form_ops q x = form_of_ops q x ++ operation Div (form q x x) two ∷ []

-- the value: half the form, c x, and their sum, and that plus the constant
abbrev pub value_ops : Program → List ℚ → List Refused
value_ops p x =
    let curved = half *ℚ form p.pairs x x in
    let linear = dot p.costs x in
    half_form_ops p.pairs x ++ (dot_ops p.costs x ++ (operation Add curved linear ∷ operation Add (curved +ℚ linear) p.constant ∷ []))
