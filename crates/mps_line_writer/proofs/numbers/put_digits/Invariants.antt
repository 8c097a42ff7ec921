-- the digits of what is left, and those that are there, give the number's
use Rattle.std.proofs.Common.{◌≡◌, ◌<◌, ◌≤◌, ◌^◌, ◌+◌, ◌++◌, drop, ◌-◌}
use Rattle.std.specs.Fmt.{decimal}
use Rattle.mps_line_writer.proofs.numbers.put_digits.Given as goal

abbrev pub invariant-loop-rest : goal.invariant-loop-rest
invariant-loop-rest l =
    (l.at ≤ l.end) × (l.end < l.at + 39) × (l.rest < 10 ^ (l.at + 39 - l.end))
    × (decimal l.rest ++ drop l.at l.buffer ≡ decimal l.fn.number ++ drop l.end l.initial.buffer)

abbrev pub decreases-loop-rest : goal.decreases-loop-rest
decreases-loop-rest l = l.rest
