use Rattle.quad_solve_law.proofs.Descents.{prices_form_a_problem, solution_leads_down}
use Rattle.quad_solve_law.proofs.Every.{comes_from_a_solution}
use Rattle.quad_solve_law.proofs.prices.price_problem_leads_down.Goals as goal

pub returns : goal.returns
returns c = record { problem = prices_form_a_problem; direction = solution_leads_down; every = comes_from_a_solution }
