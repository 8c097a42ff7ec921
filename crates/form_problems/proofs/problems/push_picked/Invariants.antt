use Rattle.std.proofs.Common.{◌≡◌, ◌++◌, take}
use Rattle.rational.specs.Vectors.{pick}
use Rattle.form_problems.proofs.problems.push_picked.Given as goal

abbrev pub invariant-loop-k : goal.invariant-loop-k
invariant-loop-k l = l.entries.items ≡ l.initial.entries.items ++ take l.k (pick l.places l.v)
