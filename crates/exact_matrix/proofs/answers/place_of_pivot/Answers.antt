use Rattle.std.proofs.Common.{sym, ◌∙◌, arith, refl}
use Rattle.exact_matrix.proofs.Assembled.{passed_pivots, pivot_at, no_pivot_at}
use Rattle.exact_matrix.proofs.answers.place_of_pivot.Goals as goal

pub loop-i-init : goal.loop-i-init
loop-i-init c = λ rows. refl

pub returns-then-is_pivot : goal.returns-then-is_pivot
returns-then-is_pivot c =
    (omega arith, pivot_at c.args.j c.args.pivots.now c.loop-i.i c.at.result c.at.ensures (sym c.is_pivot.ensures ∙ c.if-is_pivot.true) c.loop-i.invariant)

pub loop-i-preserved : goal.loop-i-preserved
loop-i-preserved c = passed_pivots c.args.j c.args.pivots.now c.loop-i.i c.at.result c.at.ensures (sym c.is_pivot.ensures ∙ c.if-is_pivot.false) c.loop-i.invariant

pub returns : goal.returns
returns c = no_pivot_at c.args.j c.args.pivots.now c.loop-i.i (omega arith) c.loop-i.invariant
