use Rattle.std.proofs.Common.{arith, sym, ◌∙◌}
use Rattle.std.proofs.lemmas.Result.{err_from_is_err_and}
use Rattle.form_problems.proofs.PriceSteps.{curvature_next, curvature_past, curvature_end}
use Rattle.form_problems.proofs.price.curvature.Goals as goal

pub returns-in_err-total-clause-past : goal.returns-in_err-total-clause-past
returns-in_err-total-clause-past c =
    let p = err_from_is_err_and c.from_residual.result c.from_residual.ensures.1 in
    rw (p.1, p.2) (curvature_past c.args.f.now.form.quadratic c.quadratic-rows.result.now.rows c.args.d.now c.loop-j.j c.loop-j.total c.quadratic-rows.ensures.rows (c.quadratic-rows.ensures.symmetric.rows ∙ sym c.requires)
    c.loop-j.invariant c.row.result.now c.at.result (omega arith) c.row.ensures.value c.at.ensures _ c.in_err-total.ensures.past)

pub loop-j-preserved : goal.loop-j-preserved
loop-j-preserved c =
    curvature_next c.args.f.now.form.quadratic c.quadratic-rows.result.now.rows c.args.d.now c.loop-j.j c.loop-j.total c.quadratic-rows.ensures.rows (c.quadratic-rows.ensures.symmetric.rows ∙ sym c.requires)
    c.loop-j.invariant c.row.result.now c.at.result (omega arith) c.row.ensures.value c.at.ensures c.in_ok-total.total c.in_ok-total.ensures.value

pub returns-clause-value : goal.returns-clause-value
returns-clause-value c =
    curvature_end c.args.f.now.form.quadratic c.quadratic-rows.result.now.rows c.args.d.now c.loop-j.j c.loop-j.total c.quadratic-rows.ensures.rows (c.quadratic-rows.ensures.symmetric.rows ∙ sym c.requires)
    c.loop-j.invariant (omega arith)
