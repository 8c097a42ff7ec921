use Rattle.std.proofs.Common.{◌≡◌, ◌++◌, map, take}
use Rattle.rational.specs.Rational.{neg_ℚ}
use Rattle.form_problems.proofs.problems.push_negated.Given as goal

abbrev pub invariant-loop-j : goal.invariant-loop-j
invariant-loop-j l = l.entries.items ≡ l.initial.entries.items ++ take l.j (map neg_ℚ l.v)
