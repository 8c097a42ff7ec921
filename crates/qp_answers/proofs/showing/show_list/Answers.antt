use Rattle.rational.specs.Rational.{Fits}
use Rattle.frac_core.specs.Parts.{max_part}
use Rattle.qp_answers.proofs.SmallNumbers.{one_shown}
use Rattle.qp_answers.proofs.showing.show_list.Goals as goal

pub loop-k-preserved : goal.loop-k-preserved
loop-k-preserved c = one_shown (Fits max_part) c.args.numbers.now c.loop-k.k c.at.result c.at.ensures c.show_number.ensures c.loop-k.invariant
