-- The test that the squares sum to Q (rule 5): for each column j and each k from j on, the sum over the squares.
use Rattle.std.specs.Prelude.{ℕ, zero, suc, List, [], ◌∷◌, length, ◌||◌, Result, Ok, if◌then◌else◌}
use Rattle.rational.specs.Rational.{ℚ, zero_ℚ}
use Rattle.rational.specs.Order.{same_fields}
use Rattle.rational.specs.Tests.{is_zero}
use Rattle.frac_core.specs.declared.fractions.Op.TheVariants.{Add, Mul}
use Rattle.program_law.specs.declared.Square.{Square}
use Rattle.rational.specs.Sums.{entry}
use Rattle.rational.specs.Vectors.{row_at}
use Rattle.program_law.specs.Program.{Program}
use Rattle.cert_check_law.specs.declared.Event.{Event}
use Rattle.cert_check_law.specs.Chain.{◌>>=◌, op, test}

-- the sum with one square's product; an entry 0 makes no operation
unfoldable pub with_square : ℚ → ℚ → ℚ → ℚ → Result ℚ Event
with_square sum weight a b =
    if is_zero a || is_zero b then Ok sum else (op Mul weight a >>= λ s. op Mul s b >>= λ t. op Add sum t)

-- the sum with these squares' products at the places j and k
abbrev pub squares_from : ℚ → List Square → ℕ → ℕ → Result ℚ Event
squares_from sum [] j k = Ok sum
squares_from sum (s ∷ ss) j k = with_square sum s.weight (entry s.coef j) (entry s.coef k) >>= λ t. squares_from t ss j k

-- the places j and k
unfoldable pub pair_test : List (List ℚ) → List Square → ℕ → ℕ → Result (Unit {0}) Event
pair_test q squares j k = squares_from zero_ℚ squares j k >>= λ t. test (same_fields t (entry (row_at q j) k)) 5 (suc j)

-- so many places k, from this one on
abbrev pub pairs_in_row : List (List ℚ) → List Square → ℕ → ℕ → ℕ → Result (Unit {0}) Event
pairs_in_row q squares j k zero = Ok tt
pairs_in_row q squares j k (suc more) = pair_test q squares j k >>= λ _. pairs_in_row q squares j (suc k) more

-- so many columns j, from this one on, each with the places k from j on
abbrev pub pairs_from : List (List ℚ) → List Square → ℕ → ℕ → Result (Unit {0}) Event
pairs_from q squares j zero = Ok tt
pairs_from q squares j (suc more) = pairs_in_row q squares j j (suc more) >>= λ _. pairs_from q squares (suc j) more

unfoldable pub squares_test : Program → List Square → Result (Unit {0}) Event
squares_test p squares = pairs_from p.pairs squares 0 (length p.columns)
