use Rattle.std.proofs.Common.{map, arith}
use Rattle.std.specs.Prelude.{unsigned_abs}
use Rattle.std.proofs.lemmas.List.{length-map}
use Rattle.std.proofs.lemmas.Result.{err_from_is_err_and}
use Rattle.frac_core.specs.Dot.{dot_of, dot_ops}
use Rattle.frac_core.proofs.Dots.{dot_goes, dot_stops, dot_done, number_read}
use Rattle.frac_core.proofs.Operations.{dot_tries, tries_is, tries_past}
use Rattle.frac_core.proofs.Values.{dot_of-value}
use Rattle.frac_core.proofs.fields.dot_slices.Goals as goal

pub loop-i-preserved : goal.loop-i-preserved
loop-i-preserved g c =
    let v = g.F.ExactField.value in
    dot_goes (unsigned_abs g.F.ExactField.TOP) (map v c.args.a.now) (map v c.args.b.now) c.loop-i.i (v c.loop-i.total) c.loop-i.invariant (v c.index-a-i.result) (v c.index-b-i.result) (v c.in_ok-total.total)
    (number_read v c.args.a.now c.loop-i.i c.index-a-i.result (omega arith) c.index-a-i.is) (number_read v c.args.b.now c.loop-i.i c.index-b-i.result (omega arith) c.index-b-i.is) c.in_ok-total.ensures

pub returns : goal.returns
returns g c =
    let v = g.F.ExactField.value in
    let top = unsigned_abs g.F.ExactField.TOP in
    let xs = map v c.args.a.now in
    let ys = map v c.args.b.now in
    let e = dot_done top xs ys c.loop-i.i (v c.loop-i.total) c.loop-i.invariant (rw length-map (omega arith)) in
    record { calculation = e; operations = tries_is top (dot_ops xs ys) (dot_of top xs ys) (v c.loop-i.total) e (dot_tries top xs ys); value = dot_of-value top xs ys (v c.loop-i.total) e }

pub returns-in_err-total-clause-calculation : goal.returns-in_err-total-clause-calculation
returns-in_err-total-clause-calculation g c =
    let v = g.F.ExactField.value in
    let p = err_from_is_err_and c.from_residual.result c.from_residual.ensures.1 in
    rw (p.1, p.2) (dot_stops (unsigned_abs g.F.ExactField.TOP) (map v c.args.a.now) (map v c.args.b.now) c.loop-i.i (v c.loop-i.total) c.loop-i.invariant (v c.index-a-i.result) (v c.index-b-i.result) _
    (number_read v c.args.a.now c.loop-i.i c.index-a-i.result (omega arith) c.index-a-i.is) (number_read v c.args.b.now c.loop-i.i c.index-b-i.result (omega arith) c.index-b-i.is) c.in_err-total.ensures)

pub returns-in_err-total-clause-operations : goal.returns-in_err-total-clause-operations
returns-in_err-total-clause-operations g c =
    let v = g.F.ExactField.value in
    let top = unsigned_abs g.F.ExactField.TOP in
    let xs = map v c.args.a.now in
    let ys = map v c.args.b.now in
    let p = err_from_is_err_and c.from_residual.result c.from_residual.ensures.1 in
    rw (p.1, p.2) (tries_past top (dot_ops xs ys) (dot_of top xs ys) _
    (dot_stops top xs ys c.loop-i.i (v c.loop-i.total) c.loop-i.invariant (v c.index-a-i.result) (v c.index-b-i.result) _
    (number_read v c.args.a.now c.loop-i.i c.index-a-i.result (omega arith) c.index-a-i.is) (number_read v c.args.b.now c.loop-i.i c.index-b-i.result (omega arith) c.index-b-i.is) c.in_err-total.ensures)
    (dot_tries top xs ys))
