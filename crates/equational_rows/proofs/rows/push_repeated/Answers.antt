use Rattle.std.proofs.Common.{arith}
use Rattle.equational_rows.proofs.Appended.{repeated_none, repeated_more, repeated_all}
use Rattle.equational_rows.proofs.rows.push_repeated.Goals as goal

pub loop-init : goal.loop-init
loop-init c = repeated_none c.args.x c.args.entries.now.items

pub loop-preserved : goal.loop-preserved
loop-preserved c = repeated_more c.args.x c.args.entries.now.items c.loop.entries.items c.push.new.self.items c.loop.counter c.loop.invariant c.in_ok-push.ensures.items

pub returns : goal.returns
returns c = repeated_all c.args.x c.args.entries.now.items c.loop.entries.items c.loop.counter c.args.count (omega arith) c.loop.invariant
