use Rattle.linear_basis_law.proofs.Units.{units_basis, units_standing, units_point, units_multipliers}
use Rattle.linear_basis_law.proofs.laws.units_are_a_basis.Goals as goal

pub returns : goal.returns
returns c = record { basis = units_basis; standing = units_standing; point = units_point; multipliers = units_multipliers }
