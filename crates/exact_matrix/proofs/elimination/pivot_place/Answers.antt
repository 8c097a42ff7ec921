use Rattle.std.proofs.Common.{sym, ◌∙◌, arith}
use Rattle.exact_matrix.specs.State.{state}
use Rattle.exact_matrix.proofs.States.{none_at_start, none_before_more, none_at_end, pivot_found, state_get, state_length}
use Rattle.exact_matrix.proofs.elimination.pivot_place.Goals as goal

pub loop-i-init : goal.loop-i-init
loop-i-init g c = none_at_start c.args.j (state g.F.ExactField.value c.args.pivots.now c.args.rows.now)

pub returns-then-may_pivot : goal.returns-then-may_pivot
returns-then-may_pivot g c =
    pivot_found g.F.ExactField.value c.args.j c.args.pivots.now c.args.rows.now c.loop-i.i c.at.result c.at.ensures (omega arith) (sym c.may_pivot.ensures ∙ c.if-may_pivot.true) c.loop-i.invariant

pub loop-i-preserved : goal.loop-i-preserved
loop-i-preserved g c =
    let v = g.F.ExactField.value in
    none_before_more c.args.j (state v c.args.pivots.now c.args.rows.now) c.loop-i.i _ (state_get v c.args.pivots.now c.args.rows.now c.loop-i.i c.at.result c.at.ensures (omega arith))
    (sym c.may_pivot.ensures ∙ c.if-may_pivot.false) c.loop-i.invariant

pub returns : goal.returns
returns g c =
    let v = g.F.ExactField.value in
    none_at_end c.args.j (state v c.args.pivots.now c.args.rows.now) c.loop-i.i (rw (state_length v c.args.pivots.now c.args.rows.now c.requires.rows) (omega arith)) c.loop-i.invariant
