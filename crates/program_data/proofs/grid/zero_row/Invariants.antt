use Rattle.std.proofs.Common.{◌≡◌, replicate}
use Rattle.rational.specs.Rational.{zero_ℚ}
use Rattle.program_data.proofs.grid.zero_row.Given as goal

abbrev pub invariant-loop : goal.invariant-loop
invariant-loop l = l.row.items ≡ replicate l.counter zero_ℚ
