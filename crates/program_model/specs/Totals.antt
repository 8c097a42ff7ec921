-- A sum that may have ended with an event.
use Rattle.std.specs.Prelude.{Result}
use Rattle.rational.specs.Rational.{ℚ}
use Rattle.cert_check_law.specs.declared.Event.{Event}
use Rattle.cert_check_law.specs.Chain.{◌>>=◌}
use Rattle.cert_check_law.specs.Dot.{with_product}

-- with the product of one place; after an event it stays
abbrev pub total_with : Result ℚ Event → ℚ → ℚ → Result ℚ Event
total_with total x y = total >>= λ sum. with_product sum x y
