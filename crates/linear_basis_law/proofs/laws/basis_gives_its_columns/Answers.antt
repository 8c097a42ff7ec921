use Rattle.linear_basis_law.specs.Problem.{height}
use Rattle.linear_basis_law.specs.Basis.{basic_columns}
use Rattle.linear_basis_law.proofs.Inverses.{independent, inverse_only}
use Rattle.linear_basis_law.proofs.Bases.{point_sums, basic_cost, basic_price, only_multipliers, same_multipliers, same_level}
use Rattle.linear_basis_law.proofs.laws.basis_gives_its_columns.Goals as goal

pub returns : goal.returns
returns c = record {
  independent = λ p b h. independent (height p) (basic_columns p b) b.inverse h.inverse;
  inverse = inverse_only;
  point = point_sums;
  costs = basic_cost;
  prices = basic_price;
  only = only_multipliers;
  same = same_multipliers;
  level = same_level;
}
