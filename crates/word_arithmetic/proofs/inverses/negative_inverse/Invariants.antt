use Rattle.std.proofs.Common.{◌^◌, ◌+◌, ◌*◌}
use Rattle.std.specs.Int.{◌∣◌}
use Rattle.word_arithmetic.proofs.inverses.negative_inverse.Given as goal

abbrev pub invariant-loop : goal.invariant-loop
invariant-loop l = 2 ^ (2 ^ l.counter) ∣ l.fn.odd * l.inverse + 1
