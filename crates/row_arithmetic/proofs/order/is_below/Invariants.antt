use Rattle.std.proofs.Common.{drop}
use Rattle.std.specs.Prelude.{◌↔◌}
use Rattle.row_arithmetic.specs.Crosses.{IsCrossBelow}
use Rattle.row_arithmetic.proofs.order.is_below.Given as goal

-- what is left decides
abbrev pub invariant-loop-k : goal.invariant-loop-k
invariant-loop-k l = IsCrossBelow l.s (drop l.k l.row) l.u (drop l.k l.other) ↔ IsCrossBelow l.s l.row l.u l.other
