-- The product of two vectors: the sum starts at 0, and each place with both entries not 0 adds its product.
use Rattle.std.specs.Prelude.{List, [], ◌∷◌, ◌||◌, Result, Ok, if◌then◌else◌}
use Rattle.rational.specs.Rational.{ℚ, zero_ℚ}
use Rattle.rational.specs.Tests.{is_zero}
use Rattle.frac_core.specs.declared.fractions.Op.TheVariants.{Add, Mul}
use Rattle.cert_check_law.specs.declared.Event.{Event}
use Rattle.cert_check_law.specs.Chain.{◌>>=◌, op}

-- the sum with the product of one place; an entry 0 makes no operation
unfoldable pub with_product : ℚ → ℚ → ℚ → Result ℚ Event
with_product sum x y = if is_zero x || is_zero y then Ok sum else (op Mul x y >>= λ t. op Add sum t)

-- the sum with the products of these places
abbrev pub dot_from : ℚ → List ℚ → List ℚ → Result ℚ Event
dot_from sum [] ys = Ok sum
dot_from sum (x ∷ xs) [] = Ok sum
dot_from sum (x ∷ xs) (y ∷ ys) = with_product sum x y >>= λ s. dot_from s xs ys

abbrev pub dot_of : List ℚ → List ℚ → Result ℚ Event
dot_of xs ys = dot_from zero_ℚ xs ys
