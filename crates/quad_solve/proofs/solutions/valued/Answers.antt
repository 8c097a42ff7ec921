use Rattle.std.proofs.Common.{◌∙◌, ap, subst, List, length}
use Rattle.std.proofs.lemmas.Result.{err_from_is_err_and}
use Rattle.rational.specs.Rational.{ℚ}
use Rattle.exact_matrix.specs.declared.systems.Stop.TheVariants as stops
use Rattle.exact_matrix.specs.Stops.{IsStopIn}
use Rattle.equational_law.specs.Form.{point_of}
use Rattle.quad_solve_law.specs.Operations.{back_ops, value_ops}
use Rattle.quad_solve.proofs.Carried.{point_long, value_told, value_refused}
use Rattle.quad_solve.proofs.Stops.{first_stop, stop_left, stop_right}
use Rattle.quad_solve.proofs.solutions.valued.Goals as goal

pub returns-in_err-x-clause-stop : goal.returns-in_err-x-clause-stop
returns-in_err-x-clause-stop c =
    let q = err_from_is_err_and c.from_residual.result c.from_residual.ensures.1 in
    rw (q.1, q.2) (stop_left (back_ops c.args.form.now.region c.args.z.now) (value_ops c.args.p.now (point_of c.args.form.now.region c.args.z.now)) _ (first_stop (List ℚ) (back_ops c.args.form.now.region c.args.z.now) _ c.in_err-x.ensures.operations))

pub value-requires : goal.value-requires
value-requires c = ap length c.in_ok-x.ensures.exact ∙ point_long c.args.form.now.region c.args.z.now ∙ c.requires.formed.wide

pub returns-in-Is-clause-value : goal.returns-in-Is-clause-value
returns-in-Is-clause-value c = value_told c.args.p.now c.in_ok-x.x c.value.result c.in-Is.least c.value.ensures.value c.in-Is.is

pub returns-in-Past-clause-stop : goal.returns-in-Past-clause-stop
returns-in-Past-clause-stop c =
    let p = c.args.p.now in
    let refused = value_refused p c.in_ok-x.x c.value.result c.in-Past.refused c.value.ensures.calculation c.in-Past.is in
    stop_right (back_ops c.args.form.now.region c.args.z.now) (value_ops p (point_of c.args.form.now.region c.args.z.now)) (stops.Past c.in-Past.refused)
    (subst (λ x. IsStopIn (value_ops p x) (stops.Past c.in-Past.refused)) c.in_ok-x.ensures.exact refused)
