-- The tests of what stands before a certificate's tree, and of a certificate that has none.
use Rattle.std.specs.Prelude.{List, Result}
use Rattle.rational.specs.Rational.{ℚ}
use Rattle.rational.specs.Order.{same_fields}
use Rattle.rational.specs.Tests.{is_negative}
use Rattle.program_law.specs.declared.Square.{Square}
use Rattle.program_law.specs.Program.{Program, bounds}
use Rattle.cert_check_law.specs.declared.Event.{Event}
use Rattle.cert_check_law.specs.Chain.{◌>>=◌, test}
use Rattle.cert_check_law.specs.Point.{point_test}
use Rattle.cert_check_law.specs.Value.{value_of, form_of}
use Rattle.cert_check_law.specs.Squares.{squares_test}
use Rattle.cert_check_law.specs.Ray.{ray_test}

-- a point that is best: the point, its value against VALUE (rule 4), the squares
unfoldable pub best_test : Program → List ℚ → ℚ → List Square → Result (Unit {0}) Event
best_test p x v squares = point_test p (bounds p) x >>= λ _. value_of p x >>= λ t. test (same_fields t v) 4 0 >>= λ _. squares_test p squares

-- values without a bound: the point, the ray, the squares
unfoldable pub unbounded_test : Program → List ℚ → List ℚ → List Square → Result (Unit {0}) Event
unbounded_test p x d squares = point_test p (bounds p) x >>= λ _. ray_test p d >>= λ _. squares_test p squares

-- a form that isn't convex: that of the vector against 0 (rule 15)
unfoldable pub vector_test : Program → List ℚ → Result (Unit {0}) Event
vector_test p v = form_of p.pairs v >>= λ h. test (is_negative h) 15 0
