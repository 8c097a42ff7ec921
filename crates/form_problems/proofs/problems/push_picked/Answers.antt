use Rattle.std.proofs.Common.{arith}
use Rattle.face_descent.proofs.Systems.{picked_next, picked_end}
use Rattle.form_problems.proofs.problems.push_picked.Goals as goal

pub loop-k-preserved : goal.loop-k-preserved
loop-k-preserved c =
    picked_next c.args.places.now c.args.v.now c.args.entries.now.items c.loop-k.entries.items c.push.new.self.items c.loop-k.k c.at.result c.at-in-loop-k.result c.at.ensures c.at-in-loop-k.ensures c.loop-k.invariant
    c.in_ok-push.ensures.items

pub returns : goal.returns
returns c = picked_end c.args.places.now c.args.v.now c.args.entries.now.items c.loop-k.entries.items c.loop-k.k (omega arith) c.loop-k.invariant
