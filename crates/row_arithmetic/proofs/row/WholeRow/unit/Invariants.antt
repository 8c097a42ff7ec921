use Rattle.row_arithmetic.proofs.Units.{UnitSoFar}
use Rattle.row_arithmetic.proofs.row.WholeRow.unit.Given as goal

-- the value, and so many entries of the unit vector
abbrev pub invariant-loop-i : goal.invariant-loop-i
invariant-loop-i l = UnitSoFar l.k l.value l.i l.numbers.items
