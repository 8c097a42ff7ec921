use Rattle.std.proofs.Common.{arith}
use Rattle.form_problems.proofs.Lists.{doubled_next, doubled_all, still_below}
use Rattle.form_problems.proofs.problems.push_all_doubled.Goals as goal

pub push_doubled-requires : goal.push_doubled-requires
push_doubled-requires c = still_below _ _ c.args.places.now c.row.ensures.length c.requires

pub loop-i-preserved : goal.loop-i-preserved
loop-i-preserved c =
    doubled_next c.args.places.now c.args.m.now.rows c.loop-i.i c.row.result.now c.args.entries.now.items c.loop-i.entries.items c.push_doubled.new.entries.items (omega arith) c.row.ensures.value c.loop-i.invariant
    c.in_ok-push_doubled.ensures

pub returns : goal.returns
returns c = doubled_all c.args.places.now c.args.m.now.rows c.loop-i.i c.args.entries.now.items c.loop-i.entries.items (omega arith) c.loop-i.invariant
