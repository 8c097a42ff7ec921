use Rattle.std.proofs.Common.{◌≡◌, Bool, Ok, Option, refl, sym, ◌∙◌, ap, subst, ◌<◌}
use Rattle.certificate_law.specs.declared.Node.TheVariants.{Bound}
use Rattle.branching_law.specs.Nodes.{ForBest}
use Rattle.search_steps.specs.declared.progress.Incumbent.{Incumbent}
use Rattle.search_steps.specs.declared.progress.Progress.{Progress}
use Rattle.search_steps.specs.Progressing.{work_left}
use Rattle.search_steps.specs.Trails.{IsTrail}
use Rattle.search_steps.proofs.Grown.{closed_work}
use Rattle.search_steps.proofs.Onward.{best_inner, better_begun, not_below_begun}
use Rattle.branching.proofs.best.point_taken.Goals as goal

pub close-requires : goal.close-requires
close-requires c = (c.args.p.now, c.requires.way.trail refl)

pub returns-then-not-is_below : goal.returns-then-not-is_below
returns-then-not-is_below c = record {
  way = not_below_begun c.args.p.now c.args.limits.bases c.args.limits.boxes c.args.progress.now c.requires.way c.args.x c.args.value c.args.y c.requires.uncrossed c.requires.best
      c.close.new.self c.in_ok-close.field-0 (sym c.is_below.ensures ∙ c.if-not-is_below.true) (λ e. c.in_ok-close.ensures.trail c.args.p.now (c.requires.way.trail refl) e) c.in_ok-close.ensures.closed;
  work = closed_work c.args.limits.boxes c.args.progress.now c.close.new.self (Bound c.args.x c.args.y) c.in_ok-close.field-0 c.in_ok-close.ensures.closed;
  stop = tt;
}

pub branched-requires-clause-inner : goal.branched-requires-clause-inner
branched-requires-clause-inner c = (
  ForBest,
  best_inner c.args.p.now c.args.limits.bases c.args.limits.boxes c.args.progress.now c.requires.way c.args.x c.args.value c.args.y c.requires.uncrossed c.requires.best
      (sym c.is_below.ensures ∙ c.if-not-is_below.false),
)

pub returns-then-branch : goal.returns-then-branch
returns-then-branch c =
    let branched = ap (λ (b : Bool). Ok b) c.if-branch.true in
    let inner = best_inner c.args.p.now c.args.limits.bases c.args.limits.boxes c.args.progress.now c.requires.way c.args.x c.args.value c.args.y c.requires.uncrossed c.requires.best
    (sym c.is_below.ensures ∙ c.if-not-is_below.false) in
    record { way = c.in_ok-branched.ensures.way ForBest inner branched; work = λ _. c.in_ok-branched.ensures.work branched; stop = tt }

-- the incumbent is kept in what was there before
same : (old between kept : Progress) (i : Option Incumbent) → between ≡ old → kept ≡ record between { incumbent = i } → kept ≡ record old { incumbent = i }
same old between kept i e is = is ∙ ap (λ (g : Progress). record g { incumbent = i }) e

pub close-requires-2 : goal.close-requires-2
close-requires-2 c =
    let kept = same c.args.progress.now c.branched.new.progress c.keep.new.self _ (c.in_ok-branched.ensures.same (ap (λ (b : Bool). Ok b) c.if-branch.false)) c.in_ok-keep.ensures in
    (c.args.p.now, subst (λ (g : Progress). IsTrail c.args.p.now g.trail) (sym kept) (c.requires.way.trail refl))

pub returns : goal.returns
returns c =
    let p = c.args.p.now in
    let old = c.args.progress.now in
    let whole = ap (λ (b : Bool). Ok b) c.if-branch.false in
    let kept = same old c.branched.new.progress c.keep.new.self _ (c.in_ok-branched.ensures.same whole) c.in_ok-keep.ensures in
    let trail = subst (λ (g : Progress). IsTrail p g.trail) (sym kept) (c.requires.way.trail refl) in
    record {
      way = better_begun p c.args.limits.bases c.args.limits.boxes old c.requires.way c.args.x c.args.value c.args.y c.requires.uncrossed c.requires.best
          c.keep.new.self c.close-2.new.self c.in_ok-close-2.field-0 kept (sym c.is_below.ensures ∙ c.if-not-is_below.false) (c.in_ok-branched.ensures.whole whole)
          (λ e. c.in_ok-close-2.ensures.trail p trail e) c.in_ok-close-2.ensures.closed;
      work = λ e. subst (λ (g : Progress). work_left c.args.limits.boxes c.close-2.new.self < work_left c.args.limits.boxes g) kept
          (closed_work c.args.limits.boxes c.keep.new.self c.close-2.new.self (Bound c.args.x c.args.y) c.in_ok-close-2.field-0 c.in_ok-close-2.ensures.closed e);
      stop = tt;
    }
