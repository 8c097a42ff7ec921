use Rattle.branching_law.proofs.Choices.{few_leaves}
use Rattle.branching_law.proofs.SearchEnds.{spent_is_small}
use Rattle.branching_law.proofs.leaves.leaves_are_few.Goals as goal

pub returns : goal.returns
returns c = record {
  leaves = λ aim p bases turns nodes open_paths is earned. few_leaves aim p bases turns nodes open_paths is earned;
  budget = spent_is_small;
}
