use Rattle.std.proofs.Common.{arith}
use Rattle.frac_core.proofs.Negated.{negated_more, negated_all}
use Rattle.frac_core.proofs.vectors.push_negated.Goals as goal

pub loop-i-preserved : goal.loop-i-preserved
loop-i-preserved c =
    negated_more c.args.numbers.now c.args.items.now.items c.loop-i.items.items c.push.new.self.items c.loop-i.i c.index-numbers-i.result c.neg.result (omega arith) c.index-numbers-i.is c.neg.ensures c.loop-i.invariant
    c.in_ok-push.ensures.items

pub returns : goal.returns
returns c = negated_all c.args.numbers.now c.args.items.now.items c.loop-i.items.items c.loop-i.i (omega arith) c.loop-i.invariant
