use Rattle.std.proofs.Common.{arith}
use Rattle.qp_answers.proofs.Written.{turn_more, turn_end, turn_in}
use Rattle.qp_answers.proofs.paths.path_text.Goals as goal

pub push_turn-requires : goal.push_turn-requires
push_turn-requires c = turn_in c.args.program.now c.args.path.now c.loop-k.k _ c.requires c.at.ensures

pub loop-k-preserved : goal.loop-k-preserved
loop-k-preserved c = turn_more _ _ _ c.args.program.now c.args.path.now c.loop-k.k _ c.loop-k.invariant c.at.ensures c.in_ok-push_turn.ensures

pub returns : goal.returns
returns c = turn_end _ _ c.args.program.now c.args.path.now c.loop-k.k c.loop-k.invariant (omega (arith, c.loop-k-test.false))
