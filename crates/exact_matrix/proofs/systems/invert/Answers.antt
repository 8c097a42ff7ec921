use Rattle.std.proofs.Common.{ap, ◌∙◌, Some}
use Rattle.std.specs.Prelude.{unsigned_abs}
use Rattle.std.proofs.lemmas.Result.{err_from_is_err_and}
use Rattle.exact_matrix.specs.State.{state, values}
use Rattle.exact_matrix.proofs.Answered.{invert_found, invert_missing, invert_right, invert_stopped, invert_within}
use Rattle.exact_matrix.proofs.systems.invert.Goals as goal

pub of_rows-requires : goal.of_rows-requires
of_rows-requires g c =
    let v = g.F.ExactField.value in
    (invert_found v c.args.m.now c.in_ok-rows.rows (unsigned_abs g.F.ExactField.TOP) c.columns-n.result (state v c.in_ok-pivots.pivots c.eliminated.new.rows) c.in-Some.entries.items
    c.columns-n.ensures.shape c.requires c.columns-n.ensures.value c.in_ok-rows.ensures.rows c.in_ok-pivots.ensures.ok (rw c.in-Some.is at c.in_ok-entries.ensures)).0

pub returns-in-Some-clause-answer : goal.returns-in-Some-clause-answer
returns-in-Some-clause-answer g c =
    let v = g.F.ExactField.value in
    ap (λ m. Some (values v m)) c.of_rows.ensures
    ∙ (invert_found v c.args.m.now c.in_ok-rows.rows (unsigned_abs g.F.ExactField.TOP) c.columns-n.result (state v c.in_ok-pivots.pivots c.eliminated.new.rows) c.in-Some.entries.items
    c.columns-n.ensures.shape c.requires c.columns-n.ensures.value c.in_ok-rows.ensures.rows c.in_ok-pivots.ensures.ok (rw c.in-Some.is at c.in_ok-entries.ensures)).1

pub returns-in-Some-clause-right : goal.returns-in-Some-clause-right
returns-in-Some-clause-right g c =
    let v = g.F.ExactField.value in
    invert_right v c.args.m.now _ c.columns-n.ensures.shape c.requires (ap (λ m. Some (values v m)) c.of_rows.ensures
    ∙ (invert_found v c.args.m.now c.in_ok-rows.rows (unsigned_abs g.F.ExactField.TOP) c.columns-n.result (state v c.in_ok-pivots.pivots c.eliminated.new.rows) c.in-Some.entries.items
    c.columns-n.ensures.shape c.requires c.columns-n.ensures.value c.in_ok-rows.ensures.rows c.in_ok-pivots.ensures.ok (rw c.in-Some.is at c.in_ok-entries.ensures)).1)

pub returns-clause-answer : goal.returns-clause-answer
returns-clause-answer g c =
    let v = g.F.ExactField.value in
    invert_missing v c.args.m.now c.in_ok-rows.rows (unsigned_abs g.F.ExactField.TOP) c.columns-n.result (state v c.in_ok-pivots.pivots c.eliminated.new.rows)
    c.columns-n.ensures.shape c.columns-n.ensures.value c.in_ok-rows.ensures.rows c.in_ok-pivots.ensures.ok (rw c.in-None.is at c.in_ok-entries.ensures)

pub returns-clause-right : goal.returns-clause-right
returns-clause-right g c =
    let v = g.F.ExactField.value in
    invert_right v c.args.m.now _ c.columns-n.ensures.shape c.requires (invert_missing v c.args.m.now c.in_ok-rows.rows (unsigned_abs g.F.ExactField.TOP) c.columns-n.result (state v c.in_ok-pivots.pivots c.eliminated.new.rows)
    c.columns-n.ensures.shape c.columns-n.ensures.value c.in_ok-rows.ensures.rows c.in_ok-pivots.ensures.ok (rw c.in-None.is at c.in_ok-entries.ensures))

pub returns-in-Some-clause-operations : goal.returns-in-Some-clause-operations
returns-in-Some-clause-operations g c =
    let v = g.F.ExactField.value in
    invert_within v c.args.m.now c.in_ok-rows.rows (unsigned_abs g.F.ExactField.TOP) c.columns-n.result c.columns-n.ensures.shape c.columns-n.ensures.value c.in_ok-rows.ensures.rows
    (state v c.in_ok-pivots.pivots c.eliminated.new.rows) c.in_ok-pivots.ensures.ok

pub returns-clause-operations : goal.returns-clause-operations
returns-clause-operations g c =
    let v = g.F.ExactField.value in
    invert_within v c.args.m.now c.in_ok-rows.rows (unsigned_abs g.F.ExactField.TOP) c.columns-n.result c.columns-n.ensures.shape c.columns-n.ensures.value c.in_ok-rows.ensures.rows
    (state v c.in_ok-pivots.pivots c.eliminated.new.rows) c.in_ok-pivots.ensures.ok

pub returns-in_err-pivots-clause-operations : goal.returns-in_err-pivots-clause-operations
returns-in_err-pivots-clause-operations g c =
    let v = g.F.ExactField.value in
    let p = err_from_is_err_and c.from_residual-in_err-pivots.result c.from_residual-in_err-pivots.ensures.1 in
    rw (p.1, p.2) (invert_stopped v c.args.m.now c.in_ok-rows.rows (unsigned_abs g.F.ExactField.TOP) c.columns-n.result c.columns-n.ensures.shape c.columns-n.ensures.value c.in_ok-rows.ensures.rows _
    c.in_err-pivots.ensures.err)
