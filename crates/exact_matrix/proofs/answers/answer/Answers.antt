use Rattle.std.proofs.Common.{arith, suc, ◌+◌}
use Rattle.exact_matrix.specs.Grid.{row_at}
use Rattle.exact_matrix.proofs.Assembled.{refuted_by, tail_copied}
use Rattle.exact_matrix.proofs.States.{entry_read}
use Rattle.exact_matrix.proofs.answers.answer.Goals as goal

pub returns-in_ok-w-in-Some : goal.returns-in_ok-w-in-Some
returns-in_ok-w-in-Some g c =
    let v = g.F.ExactField.value in
    refuted_by v c.args.n c.args.pivots.now c.args.rows.now c.in-Some.i c.in_ok-w-in-Some.w c.at.result c.in-Some.ensures
    (tail_copied c.in_ok-w-in-Some.w (row_at c.args.rows.now c.in-Some.i) c.row.result.now (c.args.n + 1) (suc c.args.n) c.in_ok-w-in-Some.ensures c.row.ensures.value (omega arith))
    (entry_read v (row_at c.args.rows.now c.in-Some.i) c.args.n c.at.result c.at.ensures)
