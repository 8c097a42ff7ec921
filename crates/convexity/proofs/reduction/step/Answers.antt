use Rattle.std.specs.Prelude.{◌≡◌, ◌<◌, length, slice_set}
use Rattle.std.specs.declared.cmp.Ordering.TheVariants.{Less}
use Rattle.std.proofs.Common.{ap, sym, ◌∙◌, arith}
use Rattle.rational.specs.Rational.{ℚ, zero_ℚ}
use Rattle.rational.specs.Order.{rational_cmp}
use Rattle.rational.specs.Sums.{entry}
use Rattle.convexity.specs.Places.{answer_found}
use Rattle.convexity.proofs.Steps.{first_order, step_below}
use Rattle.convexity.proofs.reduction.step.Goals as goal

pub returns-in-Less-clause-step : goal.returns-in-Less-clause-step
returns-in-Less-clause-step c =
    let some : 0 < length c.row.result.now = omega (arith, c.row.ensures.width, c.requires.place) in
    let order : rational_cmp (entry c.row.result.now 0) zero_ℚ ≡ Less =
    first_order c.row.result.now c.index-row-0.result Less c.index-row-0.is some
    (ap (λ (q : ℚ). rational_cmp c.index-row-0.result q) (sym c.whole.ensures) ∙ sym c.in-Less.ensures) in
    ap (answer_found c.args.j c.args.half.now) (c.set.ensures ∙ ap (λ (q : ℚ). slice_set c.args.z.now c.args.j q) c.whole-in-Less.ensures)
    ∙ step_below c.args.j c.args.half.now c.args.z.now c.requires.place (rw (← c.row.ensures.row) some) c.requires.zeros (rw (← c.row.ensures.row) order)
