use Rattle.quad_solve_law.proofs.Few.{stationary_few}
use Rattle.quad_solve_law.proofs.prices.stationary_points_are_few.Goals as goal

pub returns : goal.returns
returns c = record { few = stationary_few }
