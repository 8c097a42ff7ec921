use Rattle.std.proofs.Common.{arith}
use Rattle.form_problems.proofs.Lists.{negated_next, negated_all}
use Rattle.form_problems.proofs.problems.push_negated.Goals as goal

pub loop-j-preserved : goal.loop-j-preserved
loop-j-preserved c =
    negated_next c.args.v.now c.args.entries.now.items c.loop-j.entries.items c.push.new.self.items c.loop-j.j c.at.result c.neg.result c.at.ensures c.neg.ensures c.loop-j.invariant c.in_ok-push.ensures.items

pub returns : goal.returns
returns c = negated_all c.args.v.now c.args.entries.now.items c.loop-j.entries.items c.loop-j.j (omega arith) c.loop-j.invariant
