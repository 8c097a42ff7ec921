use Rattle.std.specs.Prelude.{Some, None}
use Rattle.branching_law.proofs.FoundCertificates.{good_earned, earned_points, earned_is_one_tree}
use Rattle.branching_law.proofs.found.earned_trees_are_good.Goals as goal

pub returns : goal.returns
returns c = record {
  bounds_values = λ aim p bases turns nodes v is earned least. good_earned p is bases aim (Some v) turns nodes earned least;
  leaves_none = λ aim p bases turns nodes is earned none. good_earned p is bases aim None turns nodes earned none;
  points = λ aim p bases turns nodes open_paths x is earned. earned_points p is bases aim turns nodes open_paths earned x;
  tree = earned_is_one_tree;
}
