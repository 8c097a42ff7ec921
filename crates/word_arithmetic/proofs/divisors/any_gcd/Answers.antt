use Rattle.std.proofs.Common.{sym, ◌∙◌, ap}
use Rattle.rational.specs.Divisors.{gcd_of, gcd_comm}
use Rattle.word_arithmetic.proofs.Twos.{gcd-one}
use Rattle.word_arithmetic.proofs.Differences.{gcd_same}
use Rattle.word_arithmetic.proofs.divisors.any_gcd.Goals as goal

pub returns-then-b-eq1 : goal.returns-then-b-eq1
returns-then-b-eq1 c = sym (gcd-one c.args.a) ∙ ap (gcd_of c.args.a) (sym c.if-b-eq1.true)

pub returns-then-a-eq1 : goal.returns-then-a-eq1
returns-then-a-eq1 c = sym (gcd-one c.args.b) ∙ gcd_comm c.args.b 1 ∙ ap (λ t. gcd_of t c.args.b) (sym c.if-a-eq1.true)

pub returns-then-a-b : goal.returns-then-a-b
returns-then-a-b c = sym (gcd_same c.args.a) ∙ ap (gcd_of c.args.a) c.if-a-b.true
