use Rattle.quad_solve_law.proofs.Directions.{feasible_is_a_problem, feasible_solutions, feasible_refutations, never_both}
use Rattle.quad_solve_law.proofs.rays.feasible_problem_tells_solutions.Goals as goal

pub returns : goal.returns
returns c = record { problem = feasible_is_a_problem; solution = feasible_solutions; refutation = feasible_refutations; not_both = never_both }
