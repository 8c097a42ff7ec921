use Rattle.std.proofs.Common.{refl, sym, ◌∙◌}
use Rattle.qp_engine.proofs.Ends.{sampled_for}
use Rattle.qp_engine.proofs.running.run.Goals as goal

pub returns-in-Sample-clause-sample : goal.returns-in-Sample-clause-sample
returns-in-Sample-clause-sample g c = λ order e is.
    (refl, c.run_sample.ensures.no_read_fault, sampled_for _ order _ _ _ (sym c.in-Ok-Some.field-0-is ∙ c.in-Ok-Some.ensures.answer ∙ e) c.run_sample.ensures.due)
