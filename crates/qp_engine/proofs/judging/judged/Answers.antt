use Rattle.std.proofs.Common.{refl, ◌∙◌}
use Rattle.std.proofs.lemmas.Result.{IfOk-weaker}
use Rattle.qp_engine.specs.Due.{IsDue}
use Rattle.qp_engine.proofs.Judged.{fault_due, program_due}
use Rattle.qp_engine.proofs.judging.judged.Goals as goal

pub returns-in-Ok-clause-due : goal.returns-in-Ok-clause-due
returns-in-Ok-clause-due c = IfOk-weaker c.answered.result _ (IsDue c.args.order c.args.input.now) (λ a d. program_due c.args.order c.args.input.now _ _ _ _ a c.requires.short c.in-Ok.ensures.reads c.limits_of.ensures.bases c.limits_of.ensures.boxes d) c.answered.ensures.due

pub returns-in-Err-Fault-clause-due : goal.returns-in-Err-Fault-clause-due
returns-in-Err-Fault-clause-due c =
    IfOk-weaker c.refused.result _ (IsDue c.args.order c.args.input.now)
    (λ a e. fault_due _ _ (c.in-Err-Fault.line, c.in-Err-Fault.kind) a c.requires.short (rw c.in-Err-Fault.field-0-is at c.in-Err-Fault.ensures.reads) (e ∙ rw (← c.in-Err-Fault.line-is, ← c.in-Err-Fault.kind-is, ← c.word.ensures) refl))
    c.refused.ensures
