use Rattle.std.proofs.Common.{subst}
use Rattle.cert_text_law.specs.History.{Follows}
use Rattle.cert_lines.proofs.FirstLine.{next_first, fault_first}
use Rattle.cert_lines.proofs.steps.next_step.Goals as goal

pub returns-in-Ok-clause-read : goal.returns-in-Ok-clause-read
returns-in-Ok-clause-read c = λ whole line given h.
    next_first c.args.p.now whole c.args.text.now line given c.in-Ok.step (subst (λ o. Follows c.args.p.now whole line given c.args.text.now o) c.in-None.is h) (c.in-Ok.ensures.read c.args.p.now line)

pub returns-in-Err-clause-read : goal.returns-in-Err-clause-read
returns-in-Err-clause-read c = λ whole line given h.
    fault_first c.args.p.now whole c.args.text.now line given c.in-Err.kind (subst (λ o. Follows c.args.p.now whole line given c.args.text.now o) c.in-None.is h) (c.in-Err.ensures.read c.args.p.now line)
