use Rattle.std.proofs.Common.{refl, subst}
use Rattle.branching_law.specs.Nodes.{ForPoint}
use Rattle.certificate_law.specs.declared.Node.TheVariants.{Cross, Farkas}
use Rattle.quad_solve.specs.declared.feasibility.AnyPoint.{AnyPoint}
use Rattle.quad_solve.specs.Answers.{IsAnyPointOf}
use Rattle.search_steps.proofs.Grown.{closed_work}
use Rattle.search_steps.proofs.Onward.{crossed_way, empty_way}
use Rattle.branching.proofs.Told.{taken_after}
use Rattle.branching.proofs.point.taken.Goals as goal

pub close-requires : goal.close-requires
close-requires c = (c.args.p.now, c.requires.way.trail refl)

pub close-requires-in-Empty : goal.close-requires-in-Empty
close-requires-in-Empty c = (c.args.p.now, c.requires.way.trail refl)

pub returns-in_ok-close-in-Crossed-clause-taken : goal.returns-in_ok-close-in-Crossed-clause-taken
returns-in_ok-close-in-Crossed-clause-taken c =
    let p = c.args.p.now in
    let more = c.in_ok-close-in-Crossed.field-0 in
    let answer = subst (λ (a : AnyPoint). IsAnyPointOf p c.args.progress.now.trail.walk.region c.args.limits.bases a) c.in-Crossed.is c.requires.answer in
    taken_after p c.args.limits.bases c.args.limits.boxes c.args.progress.now c.close.new.self more c.after.result c.after.ensures
    (crossed_way ForPoint p c.args.limits.bases c.args.limits.boxes c.args.progress.now c.close.new.self c.requires.way more
    (λ e. c.in_ok-close-in-Crossed.ensures.trail p (c.requires.way.trail refl) e) c.in-Crossed.j answer c.in_ok-close-in-Crossed.ensures.closed).0
    (closed_work c.args.limits.boxes c.args.progress.now c.close.new.self (Cross c.in-Crossed.j) more c.in_ok-close-in-Crossed.ensures.closed)

pub returns-in_ok-close-in-Empty-clause-taken : goal.returns-in_ok-close-in-Empty-clause-taken
returns-in_ok-close-in-Empty-clause-taken c =
    let p = c.args.p.now in
    let more = c.in_ok-close-in-Empty.field-0 in
    let answer = subst (λ (a : AnyPoint). IsAnyPointOf p c.args.progress.now.trail.walk.region c.args.limits.bases a) c.in-Empty.is c.requires.answer in
    taken_after p c.args.limits.bases c.args.limits.boxes c.args.progress.now c.close-in-Empty.new.self more c.after-in-Empty.result c.after-in-Empty.ensures
    (empty_way ForPoint p c.args.limits.bases c.args.limits.boxes c.args.progress.now c.close-in-Empty.new.self c.requires.way more
    (λ e. c.in_ok-close-in-Empty.ensures.trail p (c.requires.way.trail refl) e) c.in-Empty.y answer.0 answer.1 c.in_ok-close-in-Empty.ensures.closed).0
    (closed_work c.args.limits.boxes c.args.progress.now c.close-in-Empty.new.self (Farkas c.in-Empty.y) more c.in_ok-close-in-Empty.ensures.closed)
