use Rattle.std.proofs.lemmas.Result.{IfOk-weaker}
use Rattle.qp_engine.specs.Solving.{IsSolveDue}
use Rattle.qp_engine.proofs.Solved.{found_is_due}
use Rattle.qp_engine.proofs.solving.solved.Goals as goal

pub returns-in-Ok-clause-due : goal.returns-in-Ok-clause-due
returns-in-Ok-clause-due c =
    IfOk-weaker c.found.result _ (IsSolveDue c.args.program.now c.args.limits.bases c.args.limits.boxes)
    (λ a due. found_is_due c.args.program.now c.args.limits.bases c.args.limits.boxes _ a c.in-Ok.ensures.found c.in-Ok.ensures.writable c.show_numbers.ensures due) c.found.ensures.due
