use Rattle.std.proofs.Common.{Bool, refl, subst}
use Rattle.branching_law.specs.Nodes.{ForBest}
use Rattle.search_steps.specs.Progressing.{HasBegun}
use Rattle.branching.proofs.Halted.{path_at_hand}
use Rattle.branching.proofs.NoRay.{no_ray_here}
use Rattle.branching.proofs.best.best_searched.Goals as goal

pub relaxed-requires : goal.relaxed-requires
relaxed-requires c =
    let begun = subst (λ (m : Bool). HasBegun ForBest c.args.p.now c.args.limits.bases c.args.limits.boxes m c.paths.progress) c.paths-test.true c.paths.invariant in
    record {
      squares = c.requires.squares;
      trail = begun.way.trail refl;
      path = path_at_hand ForBest c.args.p.now c.args.limits.bases c.args.limits.boxes c.paths.progress begun.way;
    }

pub taken-requires-in-paths : goal.taken-requires-in-paths
taken-requires-in-paths c =
    let begun = subst (λ (m : Bool). HasBegun ForBest c.args.p.now c.args.limits.bases c.args.limits.boxes m c.paths.progress) c.paths-test.true c.paths.invariant in
    record {
      way = begun.way;
      answer = c.in_ok-answer.ensures.answer;
      lengths = c.in_ok-answer.ensures.lengths;
      no_ray = no_ray_here c.args.p.now c.args.limits.bases c.args.limits.boxes c.paths.progress c.in_ok-answer.answer c.columns-columns.ensures.program begun c.in_ok-answer.ensures.answer;
    }
