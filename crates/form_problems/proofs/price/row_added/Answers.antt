use Rattle.std.proofs.Common.{sym, ◌∙◌, inl}
use Rattle.std.proofs.lemmas.Result.{err_from_is_err_and}
use Rattle.frac_core.specs.Parts.{max_part}
use Rattle.frac_core.proofs.Steps.{step_zero}
use Rattle.rational.specs.Vectors.{dot}
use Rattle.form_problems.proofs.PriceSteps.{row_past, row_value, row_stops}
use Rattle.form_problems.proofs.price.row_added.Goals as goal

pub returns-then-is_zero-clause-value : goal.returns-then-is_zero-clause-value
returns-then-is_zero-clause-value c =
    step_zero max_part c.args.total c.args.own (dot c.args.row.now c.args.d.now) (inl (sym c.is_zero.ensures ∙ c.if-is_zero.true))

pub returns-in_err-product-clause-past : goal.returns-in_err-product-clause-past
returns-in_err-product-clause-past c =
    let p = err_from_is_err_and c.from_residual.result c.from_residual.ensures.1 in
    rw (p.1, p.2) (inl (row_past c.args.row.now c.args.d.now c.args.own _ (sym c.is_zero.ensures ∙ c.if-is_zero.false) (rw c.as_slice.ensures at c.in_err-product.ensures)))

pub returns-clause-value : goal.returns-clause-value
returns-clause-value c = row_value c.args.row.now c.args.d.now c.args.total c.args.own c.in_ok-product.product c.add_product.result (rw c.as_slice.ensures at c.in_ok-product.ensures) c.add_product.ensures

pub returns-clause-past : goal.returns-clause-past
returns-clause-past c = row_stops c.args.row.now c.args.d.now c.args.total c.args.own c.in_ok-product.product c.add_product.result (rw c.as_slice.ensures at c.in_ok-product.ensures) c.add_product.ensures
