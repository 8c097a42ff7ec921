use Rattle.std.proofs.Common.{refl, subst}
use Rattle.certificate_law.specs.declared.Node.TheVariants.{Cross, Farkas}
use Rattle.quad_solve.specs.declared.relaxation.Relaxed.{Relaxed}
use Rattle.quad_solve.specs.Relaxation.{IsRelaxedOf}
use Rattle.search_steps.proofs.Grown.{closed_work}
use Rattle.search_steps.proofs.Onward.{crossed_begun, empty_begun}
use Rattle.branching.proofs.best.taken.Goals as goal

pub close-requires : goal.close-requires
close-requires c = (c.args.p.now, c.requires.way.trail refl)

pub close-requires-in-Empty : goal.close-requires-in-Empty
close-requires-in-Empty c = (c.args.p.now, c.requires.way.trail refl)

pub returns-in_ok-close-in-Crossed : goal.returns-in_ok-close-in-Crossed
returns-in_ok-close-in-Crossed c =
    let p = c.args.p.now in
    let answer = subst (λ (a : Relaxed). IsRelaxedOf p c.args.progress.now.trail.walk.region c.args.limits.bases a) c.in-Crossed.is c.requires.answer in
    record {
      way = crossed_begun p c.args.limits.bases c.args.limits.boxes c.args.progress.now c.close.new.self c.requires.way c.in_ok-close-in-Crossed.field-0
          (λ e. c.in_ok-close-in-Crossed.ensures.trail p (c.requires.way.trail refl) e) c.in-Crossed.j answer c.in_ok-close-in-Crossed.ensures.closed;
      work = closed_work c.args.limits.boxes c.args.progress.now c.close.new.self (Cross c.in-Crossed.j) c.in_ok-close-in-Crossed.field-0 c.in_ok-close-in-Crossed.ensures.closed;
      stop = tt;
    }

pub returns-in_ok-close-in-Empty : goal.returns-in_ok-close-in-Empty
returns-in_ok-close-in-Empty c =
    let p = c.args.p.now in
    let answer = subst (λ (a : Relaxed). IsRelaxedOf p c.args.progress.now.trail.walk.region c.args.limits.bases a) c.in-Empty.is c.requires.answer in
    record {
      way = empty_begun p c.args.limits.bases c.args.limits.boxes c.args.progress.now c.close-in-Empty.new.self c.requires.way c.in_ok-close-in-Empty.field-0
          (λ e. c.in_ok-close-in-Empty.ensures.trail p (c.requires.way.trail refl) e) c.in-Empty.y answer.0 answer.1 c.in_ok-close-in-Empty.ensures.closed;
      work = closed_work c.args.limits.boxes c.args.progress.now c.close-in-Empty.new.self (Farkas c.in-Empty.y) c.in_ok-close-in-Empty.field-0 c.in_ok-close-in-Empty.ensures.closed;
      stop = tt;
    }
