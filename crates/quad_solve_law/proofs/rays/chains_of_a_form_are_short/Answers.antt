use Rattle.quad_solve_law.proofs.Counts.{feasible_width, ray_size, price_size, feasible_short, ray_short, price_short, feasible_spent, ray_spent, price_spent}
use Rattle.quad_solve_law.proofs.rays.chains_of_a_form_are_short.Goals as goal

pub returns : goal.returns
returns c = record {
  feasible_columns = feasible_width;
  ray_columns = ray_size;
  price_columns = price_size;
  feasible = feasible_short;
  ray = ray_short;
  price = price_short;
  feasible_budget = feasible_spent;
  ray_budget = ray_spent;
  price_budget = price_spent;
}
