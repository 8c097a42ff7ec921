use Rattle.std.specs.Prelude.{unsigned_abs}
use Rattle.std.proofs.lemmas.Result.{err_from_is_err_and}
use Rattle.exact_matrix.specs.State.{state}
use Rattle.exact_matrix.specs.Systems.{answer_value}
use Rattle.exact_matrix.proofs.Answered.{solve_answered, solve_right, solve_stopped, solve_within}
use Rattle.exact_matrix.proofs.systems.solve.Goals as goal

pub returns-clause-answer : goal.returns-clause-answer
returns-clause-answer g c =
    let v = g.F.ExactField.value in
    solve_answered v c.args.m.now c.in_ok-rows.rows c.args.r.now (unsigned_abs g.F.ExactField.TOP) c.columns-n.result (state v c.in_ok-pivots.pivots c.eliminated.new.rows) (answer_value v c.in_ok-answer.answer)
    c.columns-n.ensures.shape c.columns-n.ensures.value c.in_ok-rows.ensures.rows c.in_ok-pivots.ensures.ok c.in_ok-answer.ensures

pub returns-clause-right : goal.returns-clause-right
returns-clause-right g c =
    let v = g.F.ExactField.value in
    solve_right v c.args.m.now c.args.r.now (answer_value v c.in_ok-answer.answer) c.columns-n.ensures.shape c.requires
    (solve_answered v c.args.m.now c.in_ok-rows.rows c.args.r.now (unsigned_abs g.F.ExactField.TOP) c.columns-n.result (state v c.in_ok-pivots.pivots c.eliminated.new.rows) (answer_value v c.in_ok-answer.answer)
    c.columns-n.ensures.shape c.columns-n.ensures.value c.in_ok-rows.ensures.rows c.in_ok-pivots.ensures.ok c.in_ok-answer.ensures)

pub returns-clause-operations : goal.returns-clause-operations
returns-clause-operations g c =
    let v = g.F.ExactField.value in
    solve_within v c.args.m.now c.in_ok-rows.rows c.args.r.now (unsigned_abs g.F.ExactField.TOP) c.columns-n.result c.columns-n.ensures.shape c.columns-n.ensures.value c.in_ok-rows.ensures.rows
    (state v c.in_ok-pivots.pivots c.eliminated.new.rows) c.in_ok-pivots.ensures.ok

pub returns-in_err-pivots-clause-operations : goal.returns-in_err-pivots-clause-operations
returns-in_err-pivots-clause-operations g c =
    let v = g.F.ExactField.value in
    let p = err_from_is_err_and c.from_residual-in_err-pivots.result c.from_residual-in_err-pivots.ensures.1 in
    rw (p.1, p.2) (solve_stopped v c.args.m.now c.in_ok-rows.rows c.args.r.now (unsigned_abs g.F.ExactField.TOP) c.columns-n.result c.columns-n.ensures.shape c.columns-n.ensures.value c.in_ok-rows.ensures.rows _
    c.in_err-pivots.ensures.err)
