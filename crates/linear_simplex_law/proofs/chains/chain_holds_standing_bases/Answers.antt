use Rattle.linear_simplex_law.proofs.Steps.{all_bases, all_standing, earlier_cost}
use Rattle.linear_simplex_law.proofs.chains.chain_holds_standing_bases.Goals as goal

pub returns : goal.returns
returns c = record { bases = all_bases; standing = λ p chain problem h. all_standing p problem chain h; costs = earlier_cost }
