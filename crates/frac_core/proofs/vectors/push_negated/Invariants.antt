use Rattle.std.proofs.Common.{◌≡◌, ◌++◌, map, take}
use Rattle.rational.specs.Rational.{neg_ℚ}
use Rattle.frac_core.proofs.vectors.push_negated.Given as goal

-- the numbers so far, with their signs changed
abbrev pub invariant-loop-i : goal.invariant-loop-i
invariant-loop-i l = l.items.items ≡ l.initial.items.items ++ map neg_ℚ (take l.i l.numbers)
