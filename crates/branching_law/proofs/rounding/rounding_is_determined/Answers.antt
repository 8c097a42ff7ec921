use Rattle.branching_law.proofs.RoundingTurns.{last_turn, rounding_is_one, rounding_is_short}
use Rattle.branching_law.proofs.rounding.rounding_is_determined.Goals as goal

pub returns : goal.returns
returns c = record { step = last_turn; one = rounding_is_one; few = rounding_is_short }
