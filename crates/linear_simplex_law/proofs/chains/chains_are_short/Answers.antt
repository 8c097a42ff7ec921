use Rattle.linear_simplex_law.proofs.Steps.{short, spent_short}
use Rattle.linear_simplex_law.proofs.chains.chains_are_short.Goals as goal

pub returns : goal.returns
returns c = record { bases = short; budget = λ p budget b problem. spent_short p problem budget b }
