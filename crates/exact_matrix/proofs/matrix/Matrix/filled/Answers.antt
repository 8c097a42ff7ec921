use Rattle.exact_matrix.proofs.Grids.{filled_is, filled_length}
use Rattle.exact_matrix.proofs.matrix.Matrix.filled.Goals as goal

pub returns : goal.returns
returns g c = filled_is c.args.rows c.args.columns c.in_ok-count.count c.in_ok-entries.entries.items c.args.value c.checked_mul.result _ c.checked_mul.ensures c.in_ok-count.ensures.ok_part c.in_ok-entries.ensures

pub invariant_of-result : goal.invariant_of-result
invariant_of-result g c =
    filled_length c.args.rows c.args.columns c.in_ok-count.count c.in_ok-entries.entries.items c.args.value c.checked_mul.result _ c.checked_mul.ensures c.in_ok-count.ensures.ok_part c.in_ok-entries.ensures
