use Rattle.std.proofs.Common.{sym, subst}
use Rattle.rational.specs.Rational.{zero_ℚ}
use Rattle.rational.specs.Order.{◌<ℚ◌}
use Rattle.face_descent_law.proofs.Directions.{length-turned, turned_keeps, turned_flat, turned_slope, turned_value, turned_falls, turned_cost}
use Rattle.face_descent_law.proofs.Rayless.{nearest_without_ray}
use Rattle.face_descent_law.proofs.steps.refuted_step_falls.Goals as goal

pub returns : goal.returns
returns c = record {
  equations = λ n f z w d v is definite wide a t. turned_keeps n f z is wide definite w v a d t;
  flat = λ n f z w d v is definite wide a t. turned_flat n f z is wide definite w v a d t;
  slope = λ n f z w d v is definite wide a t. turned_slope n f z is wide definite w v a d t;
  value = λ n f z w d v s is definite wide a t. turned_value n f z is wide definite w v a d t s;
  falls = λ n f z w d v s is definite wide a t p. turned_falls n f z is wide definite w v a d t s p;
  zero = λ n f z w d v is definite wide a t rayless.
      nearest_without_ray n f d is (length-turned n f z is wide definite w v a d t) (turned_keeps n f z is wide definite w v a d t) (turned_flat n f z is wide definite w v a d t)
      (subst (λ x. x <ℚ zero_ℚ) (sym (turned_cost n f z is wide definite w v a d t)) (turned_slope n f z is wide definite w v a d t)) z rayless;
}
