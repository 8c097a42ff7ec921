use Rattle.row_arithmetic.specs.Crosses.{IsLeast}
use Rattle.row_arithmetic.proofs.order.least.Given as goal

-- the least of the places so far
abbrev pub invariant-loop-k : goal.invariant-loop-k
invariant-loop-k l = IsLeast l.products l.rows l.k l.best
