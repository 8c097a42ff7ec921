use Rattle.linear_basis_law.proofs.Lexicographic.{positive-add, positive-scale, positive_or, positive-not_zeros, positive-not_negated, below_difference, difference_below, below_irrefl, below_trans, below_total, some_least}
use Rattle.linear_basis_law.proofs.order.lists_are_in_order.Goals as goal

pub returns : goal.returns
returns c = record {
  sum = positive-add;
  multiple = positive-scale;
  sign = positive_or;
  not_zero = positive-not_zeros;
  not_negated = positive-not_negated;
  difference = λ u v e. (below_difference u v e, difference_below u v e);
  strict = below_irrefl;
  chained = below_trans;
  total = below_total;
  least = some_least;
}
