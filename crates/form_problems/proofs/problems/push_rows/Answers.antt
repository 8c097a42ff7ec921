use Rattle.std.proofs.Common.{arith}
use Rattle.form_problems.proofs.Lists.{rows_next, rows_all}
use Rattle.form_problems.proofs.problems.push_rows.Goals as goal

pub loop-i-preserved : goal.loop-i-preserved
loop-i-preserved c =
    rows_next c.args.m.now.rows c.loop-i.i c.row.result.now c.args.entries.now.items c.loop-i.entries.items c.extend_from_slice.new.self.items (omega arith) c.row.ensures.value c.loop-i.invariant
    c.in_ok-extend_from_slice.ensures.items

pub returns : goal.returns
returns c = rows_all c.args.m.now.rows c.loop-i.i c.args.entries.now.items c.loop-i.entries.items (omega arith) c.loop-i.invariant
