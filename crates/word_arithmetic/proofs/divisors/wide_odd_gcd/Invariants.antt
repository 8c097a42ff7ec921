use Rattle.std.proofs.Common.{◌≡◌, ◌%◌, ◌+◌}
use Rattle.rational.specs.Divisors.{gcd_of}
use Rattle.word_arithmetic.proofs.divisors.wide_odd_gcd.Given as goal

abbrev pub invariant-loop-x : goal.invariant-loop-x
invariant-loop-x l = (l.x % 2 ≡ 1) × (l.y % 2 ≡ 1) × (gcd_of l.x l.y ≡ gcd_of l.fn.a l.fn.b)

abbrev pub decreases-loop-x : goal.decreases-loop-x
decreases-loop-x l = l.x + l.y
