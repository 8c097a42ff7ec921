use Rattle.equational_law.proofs.BoundBack.{bound_back, bound_exact}
use Rattle.equational_law.proofs.leaves.optimality_goes_back.Goals as goal

pub returns-clause-leaf : goal.returns-clause-leaf
returns-clause-leaf c = bound_back

pub returns-clause-exact : goal.returns-clause-exact
returns-clause-exact c = bound_exact
