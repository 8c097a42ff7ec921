use Rattle.std.proofs.Common.{ap, ◌∙◌}
use Rattle.qp_answers.specs.Outcomes.{told_by}
use Rattle.qp_engine.proofs.Shown.{only_optimal, least, shown_due, tells_least}
use Rattle.qp_engine.proofs.sampling.shown.Goals as goal

pub unreachable-requires : goal.unreachable-requires
unreachable-requires c =
    only_optimal c.args.order c.args.program.now c.args.certificate.now c.requires.sample c.requires.good c.true_verdicts_are_optimal.ensures c.in_default-certificate.not-Optimal

pub returns-clause-due : goal.returns-clause-due
returns-clause-due c =
    shown_due c.args.order c.args.program.now c.args.certificate.now c.in-Optimal.field-0 c.in-Optimal.value c.in_ok-text-in-Optimal.text.items _ c.requires.sample
    (least c.args.order c.args.program.now c.args.certificate.now _ _ _ _ c.requires.sample c.requires.good c.in-Optimal.is) (c.in_ok-refused.ensures ∙ ap told_by c.in_default.is) c.in_ok-text-in-Optimal.ensures
    c.of-in-Optimal.ensures

pub returns-clause-holds : goal.returns-clause-holds
returns-clause-holds c = λ done.
    tells_least c.args.order c.args.program.now c.in-Optimal.field-0 c.in-Optimal.value c.in_ok-text-in-Optimal.text.items _ c.requires.sample
    (least c.args.order c.args.program.now c.args.certificate.now _ _ _ _ c.requires.sample c.requires.good c.in-Optimal.is) c.in_ok-text-in-Optimal.ensures c.of-in-Optimal.ensures
