use Rattle.program_law.proofs.Bridge.{relaxed_to, relaxed_back, feasible_to, feasible_back, value_is, point_of, columns_point}
use Rattle.program_law.proofs.points_are_their_columns.Goals as goal

pub returns-clause-relaxed : goal.returns-clause-relaxed
returns-clause-relaxed c = λ program region point. (relaxed_to program region point, relaxed_back program region point)

pub returns-clause-feasible : goal.returns-clause-feasible
returns-clause-feasible c = λ program region point. (feasible_to program region point, feasible_back program region point)

pub returns-clause-value : goal.returns-clause-value
returns-clause-value c = value_is

pub returns-clause-every : goal.returns-clause-every
returns-clause-every c = λ x. (point_of x, columns_point x)
