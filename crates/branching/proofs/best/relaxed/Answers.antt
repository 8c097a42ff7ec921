use Rattle.std.proofs.Common.{sym, ◌∙◌, ap, subst, List, length}
use Rattle.program_law.specs.Region.{Region}
use Rattle.branching_law.specs.declared.Turn.{Turn}
use Rattle.branching_law.proofs.Trees.{wide}
use Rattle.branching.specs.declared.stops.DecideStop.{DecideStop}
use Rattle.branching.specs.Stops.{IsDecideStopOf, stop_on}
use Rattle.search_steps.specs.Trails.{path_of}
use Rattle.branching.proofs.Halted.{best_stop}
use Rattle.branching.proofs.best.relaxed.Goals as goal

pub relax-requires-clause-region : goal.relax-requires-clause-region
relax-requires-clause-region c = ap (λ (r : Region). length r) (c.region.ensures ∙ c.requires.trail.region) ∙ wide c.args.p.now (path_of c.args.trail.now)

pub returns-in_ok-path-in-Err-clause-stop : goal.returns-in_ok-path-in-Err-clause-stop
returns-in_ok-path-in-Err-clause-stop c =
    subst (λ (s : DecideStop). IsDecideStopOf c.args.p.now c.args.limits.bases c.args.limits.boxes s) (sym (c.stop_on.ensures ∙ ap (λ (w : List Turn). stop_on w c.in-Err.stop) c.in_ok-path-in-Err.ensures))
    (best_stop c.args.p.now c.region.result.now c.args.limits.bases c.args.limits.boxes (path_of c.args.trail.now) c.in-Err.stop (c.region.ensures ∙ c.requires.trail.region) c.in-Err.ensures.not_crossed c.requires.path c.in-Err.ensures.stop)
