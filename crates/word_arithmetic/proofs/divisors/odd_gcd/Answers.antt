use Rattle.std.proofs.Common.{arith, sym, ap, ◌∙◌}
use Rattle.rational.specs.Divisors.{gcd_of}
use Rattle.word_arithmetic.proofs.Differences.{gcd_same, word_keeps}
use Rattle.word_arithmetic.proofs.divisors.odd_gcd.Goals as goal

pub loop-x-preserved : goal.loop-x-preserved
loop-x-preserved c =
    let i = c.loop-x.invariant in
    let k = word_keeps c.loop-x.x c.loop-x.y c.abs_diff.result c.min-least.result (omega (arith, c.loop-x.auto.x-fits)) (omega (arith, c.loop-x.auto.y-fits)) i.0 i.1
    c.loop-x-test.true c.abs_diff.ensures c.min-least.ensures in
    (k.0, k.1, k.2 ∙ i.2)

pub returns : goal.returns
returns c = sym (gcd_same c.loop-x.y) ∙ ap (λ t. gcd_of t c.loop-x.y) (sym c.loop-x-test.false) ∙ c.loop-x.invariant.2
