use Rattle.linear_basis_law.proofs.Changes.{exchange_basis, row_place, row_other}
use Rattle.linear_basis_law.proofs.exchanges.exchange_makes_a_basis.Goals as goal

pub returns : goal.returns
returns c = record { basis = exchange_basis; row = row_place; others = row_other }
