use Rattle.std.proofs.Common.{arith}
use Rattle.qp_answers.proofs.Written.{basic_more, basic_end}
use Rattle.qp_answers.proofs.withheld.push_basic_lines.Goals as goal

pub loop-k-preserved : goal.loop-k-preserved
loop-k-preserved c = basic_more _ _ _ c.args.basis.now c.loop-k.k _ c.loop-k.invariant c.at.ensures c.in_ok-push_basic_line.ensures

pub returns : goal.returns
returns c = basic_end _ _ c.args.basis.now c.loop-k.k c.loop-k.invariant (omega (arith, c.loop-k-test.false))
