use Rattle.face_descent_law.proofs.Ends.{full_is_stationary, short_loses, refuted_loses, refuted_falls, step_kept, step_or_stationary, stationary_has_no_step}
use Rattle.face_descent_law.proofs.walks.shrink_steps_fall.Goals as goal

pub returns : goal.returns
returns c = record {
  solution = λ n f z next is definite sol h. (step_kept n f is definite z sol next h).solution;
  value = λ n f z next is definite sol h. (step_kept n f is definite z sol next h).value_down;
  support = λ n f z next is definite sol h. (step_kept n f is definite z sol next h).within;
  full = λ n f z next is definite sol h e. full_is_stationary n f is definite z sol next h e;
  short = λ n f z next is definite sol h ne. short_loses n f is definite z sol next h ne;
  refuted = λ n f z next is definite sol h. refuted_loses n f is definite z sol next h;
  falls = λ n f z next is definite sol h. refuted_falls n f is definite z sol next h;
  measure = λ n f z next is definite sol h. (step_kept n f is definite z sol next h).smaller;
  stationary = λ n f z next is definite sol h step. stationary_has_no_step n f is definite z sol next h step;
  some = λ n f z is definite sol rayless. step_or_stationary n f is definite z sol rayless;
}
