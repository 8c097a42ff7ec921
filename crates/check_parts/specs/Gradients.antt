-- The gradient of a leaf at a column: that at its point, or 0 where it has none.
use Rattle.std.specs.Prelude.{ℕ, List, Option, Some, None, Result}
use Rattle.std.specs.Borrow.{Bor}
use Rattle.rational.specs.Rational.{ℚ}
use Rattle.program_law.specs.Program.{Program}
use Rattle.cert_check_law.specs.declared.Event.{Event}
use Rattle.cert_check_law.specs.Leaf.{no_gradient_at, gradient_at}

abbrev pub gradient_of : Program → Option (Bor (List ℚ)) → ℕ → Result ℚ Event
gradient_of p None = no_gradient_at
gradient_of p (Some w) = gradient_at p.pairs p.costs w.now
