use Rattle.std.proofs.Common.{◌%◌, ap, ◌∙◌}
use Rattle.word_arithmetic.proofs.Bitwise.{high_remainder}
use Rattle.word_arithmetic.proofs.wide.Wide.remainder.Goals as goal

pub returns : goal.returns
returns c =
    high_remainder c.self.inside.high c.self.inside.low c.args.m c.divide.result.0 c.divide.result.1 c.divide.ensures.rest c.divide.ensures.whole
    ∙ ap (λ n. n % c.args.m) c.self.view_is
