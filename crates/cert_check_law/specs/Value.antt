-- The value of a vector: q_j = Q_j x for each j with x_j not 0, h = x q, h / 2, c x, and (h / 2 + c x) + c0.
use Rattle.std.specs.Prelude.{pos, List, [], ◌∷◌, Result, Ok, if◌then◌else◌}
use Rattle.rational.specs.Rational.{ℚ, whole, zero_ℚ}
use Rattle.rational.specs.Tests.{is_zero}
use Rattle.frac_core.specs.declared.fractions.Op.TheVariants.{Add, Div}
use Rattle.program_law.specs.Program.{Program}
use Rattle.cert_check_law.specs.declared.Event.{Event}
use Rattle.cert_check_law.specs.Chain.{◌>>=◌, op}
use Rattle.cert_check_law.specs.Dot.{dot_of}

-- q_j: the row times the vector, and 0 where x_j is 0
unfoldable pub row_product : List ℚ → ℚ → List ℚ → Result ℚ Event
row_product row xj x = if is_zero xj then Ok zero_ℚ else dot_of row x

-- the q_j of these rows and entries
abbrev pub row_products : List (List ℚ) → List ℚ → List ℚ → Result (List ℚ) Event
row_products [] xs x = Ok []
row_products (row ∷ rows) [] x = Ok []
row_products (row ∷ rows) (xj ∷ xs) x = row_product row xj x >>= λ t. row_products rows xs x >>= λ ts. Ok (t ∷ ts)

-- h, the form of a vector
unfoldable pub form_of : List (List ℚ) → List ℚ → Result ℚ Event
form_of q x = row_products q x x >>= λ t. dot_of x t

abbrev pub two : ℚ
two = whole (pos 2)

-- half the form
unfoldable pub half_form : List (List ℚ) → List ℚ → Result ℚ Event
half_form q x = form_of q x >>= λ h. op Div h two

unfoldable pub value_of : Program → List ℚ → Result ℚ Event
value_of p x = half_form p.pairs x >>= λ half. dot_of p.costs x >>= λ linear. op Add half linear >>= λ s. op Add s p.constant
