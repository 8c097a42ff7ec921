use Rattle.std.proofs.lemmas.Result.{on_ok_weaker}
use Rattle.exact_matrix.specs.Grid.{row_at}
use Rattle.exact_matrix.proofs.Assembled.{pushed_solve_row}
use Rattle.exact_matrix.proofs.assembly.push_solve_row.Goals as goal

pub returns : goal.returns
returns g c =
    let v = g.F.ExactField.value in
    on_ok_weaker c.push_unit.result (λ e. pushed_solve_row v c.args.entries.now.items (row_at c.args.m.now c.args.i) c.row.result.now c.extend_from_slice.new.self.items c.push.new.self.items c.push_unit.new.entries.items
    c.args.right _ c.rows.result c.args.i c.row.ensures.value c.in_ok-extend_from_slice.ensures.items c.in_ok-push.ensures.items c.rows.ensures e) c.push_unit.ensures
