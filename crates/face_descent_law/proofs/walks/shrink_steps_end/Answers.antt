use Rattle.face_descent_law.proofs.Ends.{steps_kept, steps_end, few_steps}
use Rattle.face_descent_law.proofs.WorkedShrink.{shrinks, stationary}
use Rattle.face_descent_law.proofs.walks.shrink_steps_end.Goals as goal

pub returns : goal.returns
returns c = record {
  solution = λ n f z points is definite sol h. (steps_kept n f is definite z points sol h).solution;
  value = λ n f z points is definite sol h. (steps_kept n f is definite z points sol h).value_down;
  support = λ n f z points is definite sol h. (steps_kept n f is definite z points sol h).within;
  bounded = λ n f z points is definite sol h. (steps_kept n f is definite z points sol h).bounded;
  few = λ n f z points is definite sol h. (few_steps n f is definite z points sol h).all;
  worked = (shrinks, stationary);
  ends = λ n f z is definite sol rayless. steps_end n f is definite z sol rayless;
}
