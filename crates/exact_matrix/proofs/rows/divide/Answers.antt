use Rattle.std.proofs.Common.{map, length, ◌<◌, sym, ◌∙◌, arith}
use Rattle.std.specs.Prelude.{unsigned_abs}
use Rattle.std.proofs.lemmas.List.{length-map, map-set}
use Rattle.std.proofs.lemmas.Result.{err_from_is_err_and}
use Rattle.frac_core.proofs.Dots.{number_read}
use Rattle.exact_matrix.proofs.Passes.{divided_more, divided_past, divided_end}
use Rattle.exact_matrix.proofs.rows.divide.Goals as goal

pub returns : goal.returns
returns g c =
    let v = g.F.ExactField.value in
    sym c.loop-i.invariant ∙ divided_end (unsigned_abs g.F.ExactField.TOP) (v c.args.q) (map v c.loop-i.row) c.loop-i.i (rw length-map (omega arith))

pub loop-i-preserved : goal.loop-i-preserved
loop-i-preserved g c =
    let v = g.F.ExactField.value in
    let within : c.loop-i.i < length (map v c.loop-i.row) = rw length-map (omega arith) in
    rw map-set (divided_more (unsigned_abs g.F.ExactField.TOP) (v c.args.q) (map v c.loop-i.row) c.loop-i.i (v c.index-row-i.result) (v c.in_ok-row.field-0) within
    (number_read v c.loop-i.row c.loop-i.i c.index-row-i.result (omega arith) c.index-row-i.is) c.in_ok-row.ensures ∙ c.loop-i.invariant)

pub returns-in_err-row : goal.returns-in_err-row
returns-in_err-row g c =
    let v = g.F.ExactField.value in
    let p = err_from_is_err_and c.from_residual.result c.from_residual.ensures.1 in
    rw (p.1, p.2) (sym c.loop-i.invariant ∙ divided_past (unsigned_abs g.F.ExactField.TOP) (v c.args.q) (map v c.loop-i.row) c.loop-i.i (v c.index-row-i.result) _
    (number_read v c.loop-i.row c.loop-i.i c.index-row-i.result (omega arith) c.index-row-i.is) c.in_err-row.ensures)
