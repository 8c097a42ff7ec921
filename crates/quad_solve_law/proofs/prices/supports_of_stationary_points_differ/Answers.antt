use Rattle.quad_solve_law.proofs.Stationary.{one_height, lesser_differs}
use Rattle.quad_solve_law.proofs.prices.supports_of_stationary_points_differ.Goals as goal

pub returns : goal.returns
returns c = record { value = one_height; differ = lesser_differs }
