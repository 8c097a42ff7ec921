use Rattle.std.proofs.Common.{arith}
use Rattle.rational.specs.Divisors.{gcd_pos, gcd_le}
use Rattle.word_arithmetic.proofs.divisors.gcd.Goals as goal

pub returns-clause-positive : goal.returns-clause-positive
returns-clause-positive c = λ h. omega (arith, c.any_gcd.ensures, gcd_pos c.args.a c.args.b h)

pub returns-clause-below : goal.returns-clause-below
returns-clause-below c = λ h. omega (arith, c.any_gcd.ensures, gcd_le c.args.a c.args.b h)
