use Rattle.std.proofs.Common.{◌≡◌, ◌++◌, map, take}
use Rattle.rational.specs.Rational.{neg_ℚ}
use Rattle.rational.specs.Vectors.{pick}
use Rattle.form_problems.proofs.problems.push_negated_at.Given as goal

abbrev pub invariant-loop-k : goal.invariant-loop-k
invariant-loop-k l = l.entries.items ≡ l.initial.entries.items ++ take l.k (map neg_ℚ (pick l.places l.row))
