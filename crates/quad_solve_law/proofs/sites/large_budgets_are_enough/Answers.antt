use Rattle.quad_solve_law.proofs.SpentSites.{spent_is_small}
use Rattle.quad_solve_law.proofs.sites.large_budgets_are_enough.Goals as goal

pub returns : goal.returns
returns c = spent_is_small
