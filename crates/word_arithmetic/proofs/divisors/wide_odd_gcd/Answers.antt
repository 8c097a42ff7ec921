use Rattle.std.proofs.Common.{sym, ap, ◌∙◌}
use Rattle.rational.specs.Divisors.{gcd_of}
use Rattle.word_arithmetic.proofs.Differences.{gcd_same}
use Rattle.word_arithmetic.proofs.divisors.wide_odd_gcd.Goals as goal

pub returns-then-x-y : goal.returns-then-x-y
returns-then-x-y c = sym (gcd_same c.loop-x.x) ∙ ap (gcd_of c.loop-x.x) c.if-x-y.true ∙ c.loop-x.invariant.2
