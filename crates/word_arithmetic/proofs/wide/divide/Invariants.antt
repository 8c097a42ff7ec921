use Rattle.std.proofs.Common.{◌≡◌, ◌+◌, ◌-◌, ◌*◌, ◌/◌, ◌<◌, ◌^◌}
use Rattle.word_arithmetic.proofs.wide.divide.Given as goal

abbrev pub invariant-loop-i : goal.invariant-loop-i
invariant-loop-i l =
    (l.rest < l.m) × (l.quotient < 2 ^ l.i) × (l.high * 2 ^ l.i + l.low / 2 ^ (128 - l.i) ≡ l.quotient * l.m + l.rest)
