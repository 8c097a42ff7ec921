use Rattle.std.proofs.Common.{sym, subst}
use Rattle.std.specs.Int.{◌∣◌}
use Rattle.rational.specs.Divisors.{IsGcd-gcd_of}
use Rattle.row_arithmetic.proofs.numbers.gcd.Goals as goal

pub returns-clause-left : goal.returns-clause-left
returns-clause-left c = subst (λ g. g ∣ c.args.a) (sym c.gcd.ensures.value) (IsGcd-gcd_of c.args.a c.args.b).0

pub returns-clause-right : goal.returns-clause-right
returns-clause-right c = subst (λ g. g ∣ c.args.b) (sym c.gcd.ensures.value) (IsGcd-gcd_of c.args.a c.args.b).1
