use Rattle.quad_solve_law.proofs.WalkSteps.{all_solve, values_fall, still_fall, supports_differ}
use Rattle.quad_solve_law.proofs.walks.walk_values_fall.Goals as goal

pub returns : goal.returns
returns c = record {
  solutions = λ n f x walk form semi start. all_solve n f form semi x start walk;
  values = λ n f x walk form semi start. values_fall n f form semi x start walk;
  stationary = λ n f x walk form semi start. still_fall n f form semi x start walk;
  supports = λ n f x walk form semi start. supports_differ n f form semi x start walk;
}
