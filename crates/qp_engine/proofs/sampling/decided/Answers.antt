use Rattle.std.proofs.Common.{◌≡◌, inr}
use Rattle.std.proofs.lemmas.Result.{IfOk-weaker}
use Rattle.qp_answers.specs.Said.{Said}
use Rattle.qp_answers.specs.declared.status.Status.TheVariants as status
use Rattle.qp_engine.specs.Sampling.{HasSampled, IsSampleDue}
use Rattle.qp_engine.specs.Runs.{IsVerdict}
use Rattle.qp_engine.proofs.Shown.{never_done, sample_is_due, sample_stop_is_due}
use Rattle.qp_engine.proofs.sampling.decided.Goals as goal

pub returns-in-Ok-clause-due : goal.returns-in-Ok-clause-due
returns-in-Ok-clause-due c =
    IfOk-weaker c.shown.result _ (IsSampleDue c.args.order)
    (λ a due. sample_is_due c.args.order _ _ _ _ a c.requires.sample c.limits_of-limits.ensures.bases c.limits_of-limits.ensures.boxes c.columns-columns.ensures.program c.in-Ok.ensures.found due) c.shown.ensures.due

pub returns-in-Err-clause-due : goal.returns-in-Err-clause-due
returns-in-Err-clause-due c =
    IfOk-weaker c.stopped.result _ (IsSampleDue c.args.order)
    (λ a due. sample_stop_is_due c.args.order _ _ _ c.in-Err.stop a c.requires.sample c.limits_of-limits.ensures.bases c.limits_of-limits.ensures.boxes c.columns-columns.ensures.program c.in-Err.ensures.stop due) c.stopped.ensures.due

pub returns-in-Err-clause-holds : goal.returns-in-Err-clause-holds
returns-in-Err-clause-holds c =
    IfOk-weaker c.stopped.result _ (λ (a : Said). a.status ≡ status.Done → HasSampled c.args.order a.text)
    (λ a held. never_done a (HasSampled c.args.order a.text) held) c.stopped.ensures.withheld

pub returns-in-Err-clause-verdict : goal.returns-in-Err-clause-verdict
returns-in-Err-clause-verdict c = IfOk-weaker c.stopped.result _ (λ (a : Said). IsVerdict a.status) (λ a held. inr held) c.stopped.ensures.withheld
