use Rattle.linear_basis_law.proofs.Leaving.{some_place, one_place, no_tie}
use Rattle.linear_basis_law.proofs.exchanges.one_place_leaves.Goals as goal

pub returns : goal.returns
returns c = record { some = some_place; one = one_place; ties = no_tie }
