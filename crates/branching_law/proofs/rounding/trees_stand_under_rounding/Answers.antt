use Rattle.program_law.specs.Program.{bounds}
use Rattle.branching_law.proofs.RoundedTrees.{good_under_rounding, trees_under_rounding, branches-under_rounding}
use Rattle.branching_law.proofs.rounding.trees_stand_under_rounding.Goals as goal

pub returns : goal.returns
returns c = record {
  good = λ p v turns nodes. good_under_rounding p v (bounds p) turns nodes;
  tree = trees_under_rounding;
  count = branches-under_rounding;
}
