use Rattle.linear_basis_law.proofs.Verdicts.{point_nonneg, cost_of_zero_cost, zero_cost_of_cost, cost_positive}
use Rattle.linear_basis_law.proofs.laws.zero_cost_is_no_cost.Goals as goal

pub returns : goal.returns
returns c = record { values = point_nonneg; exactly = λ p b h s. (cost_of_zero_cost p b h s, zero_cost_of_cost p b h s); costs = cost_positive }
