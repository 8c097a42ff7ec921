use Rattle.elimination_law.proofs.Solved.{answer_is_right, refuted_has_none}
use Rattle.elimination_law.proofs.laws.elimination_solves.Goals as goal

pub returns : goal.returns
returns c = record { right = answer_is_right; refuted = refuted_has_none }
