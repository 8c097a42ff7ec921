use Rattle.std.specs.Prelude.{◌∷◌, Ok, false, drop}
use Rattle.std.proofs.Common.{ap, sym, ◌∙◌}
use Rattle.std.proofs.lemmas.Result.{err_from_is_err_and}
use Rattle.rational.specs.Rational.{ℚ}
use Rattle.convexity.specs.declared.Curvature.TheVariants.{Negative}
use Rattle.convexity.proofs.Steps.{first_test, dot_lent, carried_is}
use Rattle.convexity.proofs.reduction.carried.Goals as goal

pub returns-in_err-product : goal.returns-in_err-product
returns-in_err-product c =
    let p = err_from_is_err_and c.from_residual.result c.from_residual.ensures.1 in
    rw (p.1, p.2) (carried_is c.args.row.now (drop c.args.next c.args.z.now) _
    (first_test c.args.row.now c.index-row-0.result c.is_zero.result false c.index-row-0.is c.requires.some c.is_zero.ensures c.if-is_zero.false)
    (dot_lent c.args.row.now c.as_slice.result.now c.args.z.now c.args.next _ c.as_slice.ensures c.in_err-product.ensures))

pub returns : goal.returns
returns c =
    carried_is c.args.row.now (drop c.args.next c.args.z.now) _
    (first_test c.args.row.now c.index-row-0.result c.is_zero.result false c.index-row-0.is c.requires.some c.is_zero.ensures c.if-is_zero.false)
    (dot_lent c.args.row.now c.as_slice.result.now c.args.z.now c.args.next _ c.as_slice.ensures c.in_ok-product.ensures)
    ∙ ap (λ (q : ℚ). Ok (Negative (q ∷ drop c.args.next c.args.z.now))) (sym c.neg.ensures)
