use Rattle.std.proofs.lemmas.Result.{err_from_is_err_and}
use Rattle.quad_solve.proofs.Relaxing.{falling}
use Rattle.quad_solve.proofs.Carried.{some_point}
use Rattle.quad_solve.proofs.relaxation.falling.Goals as goal

pub returns-in_err-x-clause-stop : goal.returns-in_err-x-clause-stop
returns-in_err-x-clause-stop c =
    λ p budget h s r.
    let q = err_from_is_err_and c.from_residual.result c.from_residual.ensures.1 in
    rw (q.1, q.2) (c.in_err-x.ensures.stop p budget h s)

pub returns-in_err-d-clause-stop : goal.returns-in_err-d-clause-stop
returns-in_err-d-clause-stop c =
    λ p budget h s r.
    let q = err_from_is_err_and c.from_residual-in_err-d.result c.from_residual-in_err-d.ensures.1 in
    rw (q.1, q.2) (c.in_err-d.ensures.stop p budget h (some_point c.args.form.now p h budget c.args.start.point c.args.start.basis s) r)

pub returns-clause-answer : goal.returns-clause-answer
returns-clause-answer c =
    λ p budget h s r. (
      c.requires.uncrossed,
      falling c.args.form.now p h budget c.args.start.point c.in_ok-x.x c.args.ray.point c.in_ok-d.d c.args.start.basis c.args.ray.basis s c.in_ok-x.ensures.point r c.in_ok-d.ensures.direction,
    )
