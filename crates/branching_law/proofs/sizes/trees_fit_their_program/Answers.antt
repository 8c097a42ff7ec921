use Rattle.std.specs.Prelude.{[], ◌∷◌}
use Rattle.branching_law.proofs.NodeSizes.{node_sizes, rounding_sizes, rounding_numbers, both_fit, one_tree_count, earned_no_bound}
use Rattle.branching_law.proofs.sizes.trees_fit_their_program.Goals as goal

pub returns : goal.returns
returns c = record {
  sizes = λ aim p bases turns nodes open_paths is earned. node_sizes p is earned.convex bases aim [] (turns ∷ []) open_paths nodes earned.taken;
  rounding_sizes = rounding_sizes;
  rounding_numbers = rounding_numbers;
  fits = both_fit;
  count = one_tree_count;
  no_bound = earned_no_bound;
}
