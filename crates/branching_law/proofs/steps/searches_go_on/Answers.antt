use Rattle.std.proofs.Common.{refl}
use Rattle.std.specs.Prelude.{[], ◌∷◌}
use Rattle.branching_law.proofs.NodeSteps.{earned_last, points_last}
use Rattle.branching_law.proofs.RoundedTrees.{branches-append}
use Rattle.branching_law.proofs.steps.searches_go_on.Goals as goal

pub returns : goal.returns
returns c = record {
  starts = λ aim p bases turns convex rounding root. record { convex = convex; rounding = rounding; root = root; taken = refl };
  step = earned_last;
  points = points_last;
  count = λ nodes n. branches-append nodes (n ∷ []);
}
