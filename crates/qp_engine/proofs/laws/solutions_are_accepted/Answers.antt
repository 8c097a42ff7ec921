use Rattle.qp_engine.proofs.Accepted.{solution_accepted}
use Rattle.qp_engine.proofs.laws.solutions_are_accepted.Goals as goal

pub returns : goal.returns
returns c = solution_accepted
