use Rattle.quad_solve.proofs.Searched.{form_of_stop}
use Rattle.quad_solve.proofs.Stops.{form_of_region}
use Rattle.quad_solve.proofs.feasibility.uncrossed.Goals as goal

pub by_form-requires-clause-formed : goal.by_form-requires-clause-formed
by_form-requires-clause-formed c = (c.args.p.now, form_of_region c.in-Ok.form c.args.p.now c.args.region.now c.columns-columns.ensures.program c.requires.region c.in-Ok.ensures.exact)

pub returns-in-Err-clause-stop : goal.returns-in-Err-clause-stop
returns-in-Err-clause-stop c = rw c.stop_at.ensures (form_of_stop _ _ _ _ c.in-Err.ensures.operations)
