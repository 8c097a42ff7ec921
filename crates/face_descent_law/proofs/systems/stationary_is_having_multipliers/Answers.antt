use Rattle.face_descent_law.proofs.Stationary.{multipliers_of, stationary_of}
use Rattle.face_descent_law.proofs.systems.stationary_is_having_multipliers.Goals as goal

pub returns : goal.returns
returns c = record { exactly = λ n f z is definite wide. (multipliers_of n f z is wide, stationary_of n f z is wide definite) }
