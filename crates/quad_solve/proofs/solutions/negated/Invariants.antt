use Rattle.std.proofs.Common.{◌≡◌, map, take}
use Rattle.rational.specs.Rational.{neg_ℚ}
use Rattle.quad_solve.proofs.solutions.negated.Given as goal

abbrev pub invariant-loop-i : goal.invariant-loop-i
invariant-loop-i l = l.v ≡ map neg_ℚ (take l.i l.y)
