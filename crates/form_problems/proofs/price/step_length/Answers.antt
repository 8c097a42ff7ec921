use Rattle.std.proofs.Common.{sym, ◌∙◌}
use Rattle.std.proofs.lemmas.Result.{err_from_is_err_and}
use Rattle.rational.proofs.Wholes.{num-ne_of_test}
use Rattle.form_problems.proofs.PriceSteps.{minimum_past, zero_past}
use Rattle.form_problems.proofs.price.step_length.Goals as goal

pub returns-in_err-zero-clause-past : goal.returns-in_err-zero-clause-past
returns-in_err-zero-clause-past c =
    let p = err_from_is_err_and c.from_residual.result c.from_residual.ensures.1 in
    rw (p.1, p.2) (zero_past c.args.h c.args.z.now c.args.d.now _ c.in_err-zero.ensures.past)

pub divided-requires : goal.divided-requires
divided-requires c = num-ne_of_test c.args.h (sym c.is_zero.ensures ∙ c.if-is_zero.false)

pub returns-in_err-minimum-clause-past : goal.returns-in_err-minimum-clause-past
returns-in_err-minimum-clause-past c =
    let p = err_from_is_err_and c.from_residual-in_err-minimum.result c.from_residual-in_err-minimum.ensures.1 in
    rw (p.1, p.2) (minimum_past c.args.h c.whole.result c.args.z.now c.args.d.now _ (sym c.is_zero.ensures ∙ c.if-is_zero.false) c.whole.ensures c.in_err-minimum.ensures)
