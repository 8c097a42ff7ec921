use Rattle.std.proofs.lemmas.Result.{err_from_is_err_and}
use Rattle.quad_solve.proofs.relaxation.lowest.Goals as goal

pub walked-requires-clause-formed : goal.walked-requires-clause-formed
walked-requires-clause-formed c = (c.args.p.now, c.requires.formed)

pub returns-in_err-end-clause-stop : goal.returns-in_err-end-clause-stop
returns-in_err-end-clause-stop c =
    let q = err_from_is_err_and c.from_residual.result c.from_residual.ensures.1 in
    rw (q.1, q.2) (c.in_err-end.ensures.stop c.args.p.now c.requires.formed c.requires.no_ray)

pub best-requires-clause-end : goal.best-requires-clause-end
best-requires-clause-end c = (c.args.start, c.requires.solved, c.in_ok-end.ensures.end)
