use Rattle.std.proofs.Common.{subst}
use Rattle.std.proofs.lemmas.Result.{err_from_is_err_and}
use Rattle.quad_solve.specs.Walking.{IsBegun}
use Rattle.quad_solve.proofs.Carried.{found, solution_size}
use Rattle.quad_solve.proofs.feasibility.by_form.Goals as goal

pub returns-in_err-start-clause-stop : goal.returns-in_err-start-clause-stop
returns-in_err-start-clause-stop c =
    λ p h.
    let q = err_from_is_err_and c.from_residual.result c.from_residual.ensures.1 in
    rw (q.1, q.2) (c.in_err-start.ensures.stop p h)

pub point_of-requires : goal.point_of-requires
point_of-requires c =
    solution_size c.args.form.now c.requires.formed.0 c.requires.formed.1 c.args.bases c.in-Start.start.point c.in-Start.start.basis (subst (IsBegun c.args.form.now c.args.bases) c.in-Start.is c.in_ok-start.ensures.begun)
