use Rattle.std.proofs.Common.{arith}
use Rattle.exact_matrix.specs.Grid.{row_at}
use Rattle.exact_matrix.specs.State.{state, values}
use Rattle.exact_matrix.proofs.Assembled.{inverse_start, inverse_more, inverse_none, inverse_all, held_pivot, tail_pushed}
use Rattle.exact_matrix.proofs.answers.inverse_entries.Goals as goal

pub loop-j-init : goal.loop-j-init
loop-j-init g c = inverse_start g.F.ExactField.value c.args.n (state g.F.ExactField.value c.args.pivots.now c.args.rows.now) c.new-entries.result.items c.new-entries.ensures.items

pub loop-j-preserved : goal.loop-j-preserved
loop-j-preserved g c =
    let v = g.F.ExactField.value in
    inverse_more v c.args.n c.loop-j.j (state v c.args.pivots.now c.args.rows.now) c.loop-j.entries.items c.extend_from_slice.new.self.items (row_at c.args.rows.now c.in-Some.i) (omega arith)
    (held_pivot v c.loop-j.j c.args.pivots.now c.args.rows.now c.in-Some.i c.requires.rows c.in-Some.ensures)
    (tail_pushed c.loop-j.entries.items c.extend_from_slice.new.self.items (row_at c.args.rows.now c.in-Some.i) c.row.result.now c.args.n c.in_ok-extend_from_slice-in-Some.ensures.items c.row.ensures.value) c.loop-j.invariant

pub returns-in-None : goal.returns-in-None
returns-in-None g c =
    let v = g.F.ExactField.value in
    inverse_none v c.args.n c.loop-j.j (state v c.args.pivots.now c.args.rows.now) c.loop-j.entries.items (omega arith) (c.in-None.ensures (values v c.args.rows.now)) c.loop-j.invariant

pub returns : goal.returns
returns g c = inverse_all g.F.ExactField.value c.args.n c.loop-j.j (state g.F.ExactField.value c.args.pivots.now c.args.rows.now) c.loop-j.entries.items (omega arith) c.loop-j.invariant
