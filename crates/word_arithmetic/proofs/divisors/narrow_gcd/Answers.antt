use Rattle.std.proofs.Common.{◌∙◌}
use Rattle.rational.specs.Divisors.{gcd_step, gcd_comm}
use Rattle.word_arithmetic.proofs.divisors.narrow_gcd.Goals as goal

pub returns-then-a-b : goal.returns-then-a-b
returns-then-a-b c = c.binary_gcd.ensures ∙ gcd_step c.args.a c.args.b

pub returns-then-b-a : goal.returns-then-b-a
returns-then-b-a c = c.binary_gcd-then-b-a.ensures ∙ gcd_step c.args.b c.args.a ∙ gcd_comm c.args.b c.args.a
