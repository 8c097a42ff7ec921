use Rattle.std.proofs.Common.{map, ap, ◌∙◌, arith}
use Rattle.elimination_law.specs.Answers.{solve_rows}
use Rattle.exact_matrix.specs.State.{values}
use Rattle.exact_matrix.proofs.Assembled.{joined_more, solve_rows_get, solve_assembled}
use Rattle.exact_matrix.proofs.assembly.solve_rows.Goals as goal

pub loop-i-preserved : goal.loop-i-preserved
loop-i-preserved g c =
    let v = g.F.ExactField.value in
    joined_more (solve_rows (values v c.args.m.now) (map v c.args.r.now)) c.loop-i.i _ (map v c.loop-i.entries.items) (map v c.push_solve_row.new.entries.items)
    (solve_rows_get v c.args.m.now c.args.r.now c.loop-i.i c.at.result (omega arith) c.at.ensures) c.loop-i.invariant c.in_ok-push_solve_row.ensures

pub of_rows-requires : goal.of_rows-requires
of_rows-requires g c =
    let v = g.F.ExactField.value in
    (solve_assembled v c.args.m.now c.args.r.now c.loop-i.entries.items c.rows-rows.result c.columns.result c.in_ok-tail.tail c.in_ok-width.width c.loop-i.i _ _ c.checked_add.result c.checked_add-2.result
    c.requires.shape c.requires.right c.rows-rows.ensures c.columns.ensures.value c.checked_add.ensures c.in_ok-tail.ensures.ok_part c.checked_add-2.ensures c.in_ok-width.ensures.ok_part c.loop-i-test.false c.loop-i.invariant).1

pub returns-clause-columns : goal.returns-clause-columns
returns-clause-columns g c =
    let v = g.F.ExactField.value in
    ap (λ m. m.columns) c.of_rows.ensures ∙ (solve_assembled v c.args.m.now c.args.r.now c.loop-i.entries.items c.rows-rows.result c.columns.result c.in_ok-tail.tail c.in_ok-width.width c.loop-i.i _ _ c.checked_add.result c.checked_add-2.result
    c.requires.shape c.requires.right c.rows-rows.ensures c.columns.ensures.value c.checked_add.ensures c.in_ok-tail.ensures.ok_part c.checked_add-2.ensures c.in_ok-width.ensures.ok_part c.loop-i-test.false c.loop-i.invariant).0

pub returns-clause-rows : goal.returns-clause-rows
returns-clause-rows g c =
    let v = g.F.ExactField.value in
    ap (values v) c.of_rows.ensures ∙ (solve_assembled v c.args.m.now c.args.r.now c.loop-i.entries.items c.rows-rows.result c.columns.result c.in_ok-tail.tail c.in_ok-width.width c.loop-i.i _ _ c.checked_add.result c.checked_add-2.result
    c.requires.shape c.requires.right c.rows-rows.ensures c.columns.ensures.value c.checked_add.ensures c.in_ok-tail.ensures.ok_part c.checked_add-2.ensures c.in_ok-width.ensures.ok_part c.loop-i-test.false c.loop-i.invariant).2
