use Rattle.std.proofs.Common.{◌≡◌, length}
use Rattle.row_arithmetic.proofs.row.WholeRow.zeros.Given as goal

-- so many zeros so far
abbrev pub invariant-loop : goal.invariant-loop
invariant-loop l = length l.numbers.items ≡ l.counter
