use Rattle.branching_law.proofs.Marks.{kept_by_none, branch_is_not_kept, kept_unmarked}
use Rattle.branching_law.proofs.steps.points_keep_the_marks.Goals as goal

pub returns : goal.returns
returns c = record {
  kept = kept_by_none;
  not_kept = branch_is_not_kept;
  branch = λ p x j k b. branch_is_not_kept p x j b.first.holds;
  unmarked = kept_unmarked;
}
