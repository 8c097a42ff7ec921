-- The entries of the check that the squares sum to Q (rule 5): for each column j and each k from j on, the sum and its test.
use Rattle.std.specs.Prelude.{ℕ, zero, suc, List, [], ◌∷◌, ◌++◌, length, ◌||◌, if◌then◌else◌}
use Rattle.rational.specs.Rational.{ℚ, zero_ℚ, ◌+ℚ◌, ◌*ℚ◌}
use Rattle.rational.specs.Order.{same_fields}
use Rattle.frac_core.specs.declared.fractions.Op.TheVariants.{Add, Mul}
use Rattle.frac_core.specs.declared.fractions.Refused.{Refused}
use Rattle.frac_core.specs.Operations.{operation}
use Rattle.rational.specs.Tests.{is_zero}
use Rattle.program_law.specs.declared.Square.{Square}
use Rattle.rational.specs.Sums.{entry}
use Rattle.rational.specs.Vectors.{row_at}
use Rattle.program_law.specs.Program.{Program}
use Rattle.program_law.specs.Squares.{squares_sum}
use Rattle.cert_check_law.specs.Entries.{Entry, operations, Test}

-- one square's product, on top of a sum: none where an entry is 0
abbrev pub with_square_ops : ℚ → ℚ → ℚ → ℚ → List Refused
with_square_ops sum weight a b =
    if is_zero a || is_zero b then []
    else operation Mul weight a ∷ operation Mul (weight *ℚ a) b ∷ operation Add sum (weight *ℚ a *ℚ b) ∷ []

-- these squares' products at the places j and k, on top of a sum
abbrev pub squares_from_ops : ℚ → List Square → ℕ → ℕ → List Refused
squares_from_ops sum [] j k = []
squares_from_ops sum (s ∷ ss) j k =
    with_square_ops sum s.weight (entry s.coef j) (entry s.coef k) ++ squares_from_ops (sum +ℚ s.weight *ℚ entry s.coef j *ℚ entry s.coef k) ss j k

-- the places j and k: the sum is Q_jk (rule 5)
abbrev pub pair_list : List (List ℚ) → List Square → ℕ → ℕ → List Entry
pair_list q squares j k =
    operations (squares_from_ops zero_ℚ squares j k) ++ Test (same_fields (squares_sum squares j k) (entry (row_at q j) k)) 5 (suc j) ∷ []

-- so many places k, from this one on
abbrev pub pairs_in_row_list : List (List ℚ) → List Square → ℕ → ℕ → ℕ → List Entry
pairs_in_row_list q squares j k zero = []
pairs_in_row_list q squares j k (suc more) = pair_list q squares j k ++ pairs_in_row_list q squares j (suc k) more

-- so many columns j, from this one on, each with the places k from j on
abbrev pub pairs_from_list : List (List ℚ) → List Square → ℕ → ℕ → List Entry
pairs_from_list q squares j zero = []
pairs_from_list q squares j (suc more) = pairs_in_row_list q squares j j (suc more) ++ pairs_from_list q squares (suc j) more

-- all columns
abbrev pub squares_list : Program → List Square → List Entry
squares_list p squares = pairs_from_list p.pairs squares 0 (length p.columns)
