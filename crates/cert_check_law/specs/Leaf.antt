-- The tests of a leaf: its multipliers' sides (rule 7), and its number against the value (rule 8) or 0 (rule 9).
use Rattle.std.specs.Prelude.{ℕ, suc, List, [], ◌∷◌, Option, Some, None, Bool, false, Result, Ok, Err, if◌then◌else◌}
use Rattle.rational.specs.Rational.{ℚ, zero_ℚ}
use Rattle.rational.specs.Tests.{is_zero, is_positive, is_le}
use Rattle.frac_core.specs.declared.fractions.Op.TheVariants.{Add, Sub, Mul}
use Rattle.program_law.specs.declared.Row.{Row}
use Rattle.rational.specs.Sums.{entry}
use Rattle.rational.specs.Vectors.{row_at, column}
use Rattle.program_law.specs.Region.{Region}
use Rattle.program_law.specs.Program.{Program, sides}
use Rattle.certificate_law.specs.Leaf.{side_for}
use Rattle.cert_check_law.specs.declared.Event.{Event}
use Rattle.cert_check_law.specs.declared.Event.TheVariants.{Failed}
use Rattle.cert_check_law.specs.Chain.{◌>>=◌, op, test}
use Rattle.cert_check_law.specs.Dot.{dot_of}
use Rattle.cert_check_law.specs.Value.{half_form}

-- the test that a side is there
abbrev pub needed : ℕ → Option ℚ → Result ℚ Event
needed node None = Err (Failed 7 node)
needed node (Some side) = Ok side

-- the sum with a multiplier times its side; a multiplier 0 makes no operation and no test
unfoldable pub with_side : ℕ → ℚ → ℚ → Row → Result ℚ Event
with_side node sum y s =
    if is_zero y then Ok sum else (needed node (side_for y s) >>= λ side. op Mul y side >>= λ t. op Add sum t)

-- the sum with these rows
abbrev pub with_rows : ℕ → ℚ → List ℚ → List Row → Result ℚ Event
with_rows node sum [] ss = Ok sum
with_rows node sum (y ∷ ys) [] = Ok sum
with_rows node sum (y ∷ ys) (s ∷ ss) = with_side node sum y s >>= λ u. with_rows node u ys ss

-- g_j at a BOUND leaf: Q_j w + c_j
unfoldable pub gradient_at : List (List ℚ) → List ℚ → List ℚ → ℕ → Result ℚ Event
gradient_at pairs costs w j = dot_of (row_at pairs j) w >>= λ t. op Add t (entry costs j)

-- g_j at a FARKAS leaf
abbrev pub no_gradient_at : ℕ → Result ℚ Event
no_gradient_at j = Ok zero_ℚ

-- the sum with column j: g_j, the column of A times y, their difference, and that times its bound
unfoldable pub with_column : ℕ → (ℕ → Result ℚ Event) → List (List ℚ) → List ℚ → ℕ → ℚ → Row → Result ℚ Event
with_column node g rows y j sum b =
    g j >>= λ gj. dot_of (column j rows) y >>= λ a. op Sub gj a >>= λ s. with_side node sum s b

-- the sum with the columns from j on
abbrev pub with_columns : ℕ → (ℕ → Result ℚ Event) → List (List ℚ) → List ℚ → ℕ → ℚ → Region → Result ℚ Event
with_columns node g rows y j sum [] = Ok sum
with_columns node g rows y j sum (b ∷ bs) = with_column node g rows y j sum b >>= λ u. with_columns node g rows y (suc j) u bs

-- S
unfoldable pub leaf_sum : Program → ℕ → (ℕ → Result ℚ Event) → Region → List ℚ → Result ℚ Event
leaf_sum p node g region y = with_rows node zero_ℚ y (sides p) >>= λ u. with_columns node g p.entries y 0 u region

unfoldable pub farkas_test : Program → ℕ → Region → List ℚ → Result (Unit {0}) Event
farkas_test p node region y = leaf_sum p node no_gradient_at region y >>= λ s. test (is_positive s) 9 node

-- a number is at least the value; where there is no value none is
abbrev pub reaches : Option ℚ → ℚ → Bool
reaches None low = false
reaches (Some v) low = is_le v low

unfoldable pub bound_test : Program → Option ℚ → ℕ → Region → List ℚ → List ℚ → Result (Unit {0}) Event
bound_test p v node region w y =
    leaf_sum p node (gradient_at p.pairs p.costs w) region y >>= λ s. half_form p.pairs w >>= λ half. op Sub p.constant half >>= λ a. op Add a s >>= λ low. test (reaches v low) 8 node
