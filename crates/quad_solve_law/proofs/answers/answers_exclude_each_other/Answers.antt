use Rattle.quad_solve_law.proofs.RegionAnswers.{no_point_where_empty, no_best_where_empty, no_best_where_falling}
use Rattle.quad_solve_law.proofs.answers.answers_exclude_each_other.Goals as goal

pub returns : goal.returns
returns c = record {
  found = λ p region one other x y is wide. no_point_where_empty p region is wide one other x y;
  ray = λ p region one other x d y is wide h. no_point_where_empty p region is wide one other x y h.found;
  best = λ p region one other x least y u is wide. no_best_where_empty p region is wide one other x least y u;
  both = λ p region one other x least y w d is wide. no_best_where_falling p region is wide one other x least y w d;
}
