use Rattle.quad_solve_law.specs.Problems.{feasible_problem}
use Rattle.quad_solve.specs.declared.sites.Task.TheVariants.{Feasible}
use Rattle.quad_solve.proofs.Searched.{at_chain}
use Rattle.quad_solve.proofs.Carried.{empty}
use Rattle.quad_solve.proofs.Stops.{feasible_stops, nowhere_chain}
use Rattle.quad_solve.proofs.Turns.{farkas_answer, point_answer}
use Rattle.quad_solve.proofs.solutions.started.Goals as goal

pub returns-in-Ok-Point-clause-begun : goal.returns-in-Ok-Point-clause-begun
returns-in-Ok-Point-clause-begun c =
    point_answer (feasible_problem c.args.form.now.form) c.args.bases c.in-Ok-Point.field-0 c.in-Ok-Point.point c.in-Ok-Point.basis c.in-Ok-Point.ensures.answer c.in-Ok-Point.field-0-is

pub returns-in-Ok-Farkas-clause-begun : goal.returns-in-Ok-Farkas-clause-begun
returns-in-Ok-Farkas-clause-begun c = λ p h.
    empty c.args.form.now p h c.args.bases c.in-Ok-Farkas.farkas c.in_ok-emptied-in-Ok-Farkas.field-0 c.in-Ok-Farkas.field-0-1
    (farkas_answer (feasible_problem c.args.form.now.form) c.args.bases c.in-Ok-Farkas.field-0 c.in-Ok-Farkas.farkas c.in-Ok-Farkas.field-0-1 c.in-Ok-Farkas.ensures.answer c.in-Ok-Farkas.field-0-is)
    (c.in_ok-emptied-in-Ok-Farkas.ensures p c.args.form.now.region h.program h.exact)

pub returns-clause-stop : goal.returns-clause-stop
returns-clause-stop c = λ p h.
    nowhere_chain p c.args.form.now.region c.args.bases Feasible c.in_ok-nowhere-in-Err.field-0 c.in-Err.stop c.chain_stop.result c.chain_stop.ensures c.in_ok-nowhere-in-Err.ensures
    (feasible_stops c.args.form.now p h c.args.bases c.in-Err.stop c.in-Err.ensures.stop)

pub returns-clause-feasibility : goal.returns-clause-feasibility
returns-clause-feasibility c = at_chain c.in_ok-nowhere-in-Err.field-0 c.in-Err.stop c.chain_stop.result c.chain_stop.ensures c.in_ok-nowhere-in-Err.ensures
