use Rattle.linear_basis_law.proofs.Changes.{point_place, point_other, multipliers_move, level_moves}
use Rattle.linear_basis_law.proofs.exchanges.exchange_moves_the_point.Goals as goal

pub returns : goal.returns
returns c = record { value = point_place; values = point_other; multipliers = multipliers_move; level = level_moves }
