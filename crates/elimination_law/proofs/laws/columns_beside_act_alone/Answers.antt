use Rattle.elimination_law.proofs.Without.{rows_without, operations_without, invert_lines_are, pivots_are, invert_operations_are}
use Rattle.elimination_law.proofs.laws.columns_beside_act_alone.Goals as goal

pub returns : goal.returns
returns c = record { lines = rows_without; operations = operations_without; invert_lines = invert_lines_are; invert_pivots = pivots_are; invert_operations = invert_operations_are }
