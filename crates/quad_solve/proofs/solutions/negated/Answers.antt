use Rattle.quad_solve.proofs.Carried.{negated_more}
use Rattle.quad_solve.proofs.solutions.negated.Goals as goal

pub loop-i-preserved : goal.loop-i-preserved
loop-i-preserved c = negated_more _ _ _ _ _ _ c.loop-i.invariant c.at.ensures c.neg.ensures c.in_ok-push.ensures.ok
