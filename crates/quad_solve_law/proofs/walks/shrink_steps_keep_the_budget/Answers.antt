use Rattle.quad_solve_law.proofs.WalkSteps.{shrinks_count, shrinks_prices}
use Rattle.quad_solve_law.proofs.walks.shrink_steps_keep_the_budget.Goals as goal

pub returns : goal.returns
returns c = record { count = shrinks_count; prices = shrinks_prices }
