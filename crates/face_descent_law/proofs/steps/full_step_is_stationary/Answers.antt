use Rattle.face_descent_law.proofs.Directions.{way_keeps, way_falls, value_within_one, full_stationary}
use Rattle.face_descent_law.proofs.steps.full_step_is_stationary.Goals as goal

pub returns : goal.returns
returns c = record {
  equations = λ n f z x is definite wide a. way_keeps n f z is wide definite x a;
  slope = λ n f z x is definite wide a. way_falls n f z is wide definite x a;
  value = λ n f z x s is definite wide a p q. value_within_one n f z is wide definite x a s p q;
  stationary = λ n f z x is definite wide a. full_stationary n f z is wide definite x a;
}
