use Rattle.std.proofs.lemmas.Result.{on_ok_weaker}
use Rattle.exact_matrix.specs.Grid.{row_at}
use Rattle.exact_matrix.proofs.Assembled.{pushed_invert_row}
use Rattle.exact_matrix.proofs.assembly.push_invert_row.Goals as goal

pub returns : goal.returns
returns g c =
    let v = g.F.ExactField.value in
    on_ok_weaker c.push_unit.result (λ e. pushed_invert_row v c.args.entries.now.items (row_at c.args.m.now c.args.i) c.row.result.now c.extend_from_slice.new.self.items c.push_unit.new.entries.items
    _ c.rows.result c.args.i c.row.ensures.value c.in_ok-extend_from_slice.ensures.items c.rows.ensures e) c.push_unit.ensures
