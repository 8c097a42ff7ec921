use Rattle.linear_simplex_law.proofs.Steps.{levels_fall, bases_differ}
use Rattle.linear_simplex_law.proofs.chains.bases_of_a_chain_differ.Goals as goal

pub returns : goal.returns
returns c = record { levels = levels_fall; columns = bases_differ }
