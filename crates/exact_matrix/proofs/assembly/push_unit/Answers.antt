use Rattle.std.proofs.Common.{map, ap, ◌∙◌, arith}
use Rattle.exact_matrix.proofs.Assembled.{unit_none, unit_more, unit_all}
use Rattle.exact_matrix.proofs.assembly.push_unit.Goals as goal

pub loop-k-init : goal.loop-k-init
loop-k-init g c = unit_none c.args.size c.args.i (map g.F.ExactField.value c.args.entries.now.items)

pub loop-k-preserved : goal.loop-k-preserved
loop-k-preserved g c =
    let v = g.F.ExactField.value in
    ap (map v) c.in_ok-push.ensures.items
    ∙ unit_more v c.args.size c.args.i c.loop-k.k c.loop-k.entries.items c.args.entries.now.items c.unit_entry.result (omega arith) c.loop-k.invariant c.unit_entry.ensures

pub returns : goal.returns
returns g c = unit_all g.F.ExactField.value c.args.size c.args.i c.loop-k.k c.loop-k.entries.items c.args.entries.now.items (omega arith) c.loop-k.invariant
