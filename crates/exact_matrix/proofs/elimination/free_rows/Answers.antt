use Rattle.std.proofs.Common.{map, sym, ◌∙◌, arith, refl}
use Rattle.std.specs.Prelude.{unsigned_abs}
use Rattle.std.proofs.lemmas.Result.{err_from_is_err_and}
use Rattle.exact_matrix.specs.State.{state}
use Rattle.exact_matrix.proofs.States.{append_no_lines, row_freed, each_past, each_end, state_get, state_length, with_row_shape}
use Rattle.exact_matrix.proofs.elimination.free_rows.Goals as goal

pub loop-i-init : goal.loop-i-init
loop-i-init g c = (record { columns = refl; rows = refl }, append_no_lines _)

pub returns-clause-lines : goal.returns-clause-lines
returns-clause-lines g c =
    let v = g.F.ExactField.value in
    sym c.loop-i.invariant.1 ∙ each_end (unsigned_abs g.F.ExactField.TOP) c.args.j (map v c.args.p.now) (state v c.args.pivots.now c.loop-i.rows) c.loop-i.i
    (let e = c.loop-i.invariant.0.rows in rw (state_length v c.args.pivots.now c.loop-i.rows (omega arith)) (omega arith))

pub loop-i-preserved : goal.loop-i-preserved
loop-i-preserved g c =
    let v = g.F.ExactField.value in
    let s = c.loop-i.invariant.0 in
    let t = with_row_shape c.loop-i.rows c.free_row.new.rows c.loop-i.i _ c.free_row.ensures.rest in (
      record { columns = t.columns ∙ s.columns; rows = t.rows ∙ s.rows },
      row_freed v (unsigned_abs g.F.ExactField.TOP) c.args.j (map v c.args.p.now) c.args.pivots.now c.loop-i.rows c.free_row.new.rows c.loop-i.i c.at.result
          (c.requires.rows ∙ sym s.rows) (omega (arith, s.rows)) c.at.ensures c.in_ok-free_row.ensures.line c.free_row.ensures.rest
          ∙ c.loop-i.invariant.1,
    )

pub returns-in_err-free_row-clause-lines : goal.returns-in_err-free_row-clause-lines
returns-in_err-free_row-clause-lines g c =
    let v = g.F.ExactField.value in
    let p = err_from_is_err_and c.from_residual.result c.from_residual.ensures.1 in
    rw (p.1, p.2) (sym c.loop-i.invariant.1 ∙ each_past (unsigned_abs g.F.ExactField.TOP) c.args.j (map v c.args.p.now) (state v c.args.pivots.now c.loop-i.rows) c.loop-i.i _ _
    (state_get v c.args.pivots.now c.loop-i.rows c.loop-i.i c.at.result c.at.ensures (omega (arith, c.loop-i.invariant.0.rows))) c.in_err-free_row.ensures.line)

pub returns-in_err-free_row-clause-shape : goal.returns-in_err-free_row-clause-shape
returns-in_err-free_row-clause-shape g c =
    let s = c.loop-i.invariant.0 in
    let t = with_row_shape c.loop-i.rows c.free_row.new.rows c.loop-i.i _ c.free_row.ensures.rest in
    record { columns = t.columns ∙ s.columns; rows = t.rows ∙ s.rows }
