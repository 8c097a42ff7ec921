use Rattle.std.proofs.Common.{arith}
use Rattle.qp_answers.proofs.Written.{at_more, at_end}
use Rattle.qp_answers.proofs.withheld.push_at_lines.Goals as goal

pub loop-k-preserved : goal.loop-k-preserved
loop-k-preserved c = at_more _ _ _ c.args.at.now c.loop-k.k _ c.loop-k.invariant c.at.ensures c.in_ok-push_at_line.ensures

pub returns : goal.returns
returns c = at_end _ _ c.args.at.now c.loop-k.k c.loop-k.invariant (omega (arith, c.loop-k-test.false))
