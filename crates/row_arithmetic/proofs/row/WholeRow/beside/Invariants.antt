use Rattle.std.proofs.Common.{◌≡◌, ◌∷◌, take}
use Rattle.row_arithmetic.proofs.row.WholeRow.beside.Given as goal

-- the value, and the numbers so far
abbrev pub invariant-loop-number : goal.invariant-loop-number
invariant-loop-number l = l.numbers.items ≡ l.value ∷ take l.number-index l.rest
