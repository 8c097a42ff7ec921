use Rattle.convexity.proofs.Ended.{answer_is_exact, answer_is_within, refusal_is_first}
use Rattle.convexity.proofs.laws.reduction_ends_with_its_first_refusal.Goals as goal

pub returns-clause-exact : goal.returns-clause-exact
returns-clause-exact c = answer_is_exact

pub returns-clause-within : goal.returns-clause-within
returns-clause-within c = answer_is_within

pub returns-clause-refused : goal.returns-clause-refused
returns-clause-refused c = refusal_is_first
