use Rattle.quad_solve_law.proofs.RegionAnswers.{empty_is_good, found_is_point, falling_is_ray, best_is_point, best_is_good, best_is_least, best_has_no_ray}
use Rattle.quad_solve_law.proofs.answers.answers_are_true.Goals as goal

pub returns : goal.returns
returns c = record {
  empty = λ p region budget y is wide. empty_is_good p region is wide budget y;
  found = λ p region budget x is wide. found_is_point p region is wide budget x;
  ray = λ p region budget x d is wide. falling_is_ray p region is wide budget x d;
  point = λ p region budget x least y is wide semi. best_is_point p region is wide semi budget x least y;
  bound = λ p region budget x least y is wide semi. best_is_good p region is wide semi budget x least y;
  least = λ p region budget x least y is wide semi. best_is_least p region is wide semi budget x least y;
  no_ray = λ p region budget x least y d is wide. best_has_no_ray p region is wide budget x least y d;
}
