use Rattle.elimination_law.proofs.Free.{solve_independent, solve_depends, solution_off}
use Rattle.elimination_law.proofs.laws.pivot_columns_are_independent.Goals as goal

pub returns : goal.returns
returns c = record { independent = solve_independent; dependent = solve_depends; solution = solution_off }
