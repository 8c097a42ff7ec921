use Rattle.std.proofs.Common.{◌≢◌, pos, List, sym, subst, ◌∙◌, arith}
use Rattle.std.specs.Prelude.{unsigned_abs, Result}
use Rattle.std.proofs.lemmas.Result.{err_from_is_err_and}
use Rattle.rational.specs.Rational.{ℚ}
use Rattle.frac_core.specs.declared.fractions.Refused.{Refused}
use Rattle.elimination_law.specs.Elimination.{Line}
use Rattle.exact_matrix.specs.Grid.{row_at}
use Rattle.frac_core.specs.Calculated.{Leaves}
use Rattle.exact_matrix.specs.State.{state}
use Rattle.exact_matrix.proofs.States.{entry_read, cleared_by_copy, cleared_past, with_row_shape}
use Rattle.exact_matrix.proofs.elimination.clear_column.Goals as goal

pub at-pivot-requires-clause-row : goal.at-pivot-requires-clause-row
at-pivot-requires-clause-row g c = c.requires.pivot.within

pub divide-requires-clause-row : goal.divide-requires-clause-row
divide-requires-clause-row g c = c.requires.pivot.within

pub divide-requires-clause-divisor : goal.divide-requires-clause-divisor
divide-requires-clause-divisor g c =
    subst (λ (q : ℚ). q.num ≢ pos 0) (entry_read g.F.ExactField.value (row_at c.args.rows.now c.args.i) c.args.j c.at-pivot.result c.at-pivot.ensures) c.requires.pivot.nonzero

pub set-requires : goal.set-requires
set-requires g c = omega (arith, c.requires.rows, c.requires.pivot.within)

pub returns-in_err-divide-clause-lines : goal.returns-in_err-divide-clause-lines
returns-in_err-divide-clause-lines g c =
    let v = g.F.ExactField.value in
    let p = err_from_is_err_and c.from_residual.result c.from_residual.ensures.1 in
    rw (p.1, p.2) (cleared_past v (unsigned_abs g.F.ExactField.TOP) c.args.j c.args.pivots.now c.args.rows.now c.args.i (v c.at-pivot.result) _ c.requires.pivot
    (entry_read v (row_at c.args.rows.now c.args.i) c.args.j c.at-pivot.result c.at-pivot.ensures) c.in_err-divide.ensures.row)

pub returns-clause-lines : goal.returns-clause-lines
returns-clause-lines g c =
    let v = g.F.ExactField.value in
    let e = cleared_by_copy v (unsigned_abs g.F.ExactField.TOP) c.args.j c.args.pivots.now c.set.new.self c.args.rows.now c.divide.new.self c.args.i (v c.at-pivot.result) c.copy_from_slice.new.self c.row.result.now
    c.requires.pivot (entry_read v (row_at c.args.rows.now c.args.i) c.args.j c.at-pivot.result c.at-pivot.ensures) c.in_ok-divide.ensures.row c.divide.ensures.rest c.set.ensures c.copy_from_slice.ensures.after c.row.ensures.value in
    subst (λ (r : Result (List Line) Refused). Leaves (state v c.set.new.self c.free_rows.new.rows) c.free_rows.result r) (sym e) c.free_rows.ensures.lines

pub returns-in_err-divide-clause-shape : goal.returns-in_err-divide-clause-shape
returns-in_err-divide-clause-shape g c = with_row_shape c.args.rows.now c.divide.new.self c.args.i _ c.divide.ensures.rest

pub returns-clause-shape : goal.returns-clause-shape
returns-clause-shape g c =
    let s = with_row_shape c.args.rows.now c.divide.new.self c.args.i _ c.divide.ensures.rest in
    let t = c.free_rows.ensures.shape in record { columns = t.columns ∙ s.columns; rows = t.rows ∙ s.rows }
