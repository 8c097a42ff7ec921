use Rattle.std.proofs.Common.{◌≡◌, ◌++◌, drop}
use Rattle.equational_law.specs.Standing.{shift}
use Rattle.equational.proofs.objective.shift.Given as goal

-- what is done and what is left give the whole
abbrev pub invariant-loop-j : goal.invariant-loop-j
invariant-loop-j l = l.h.items ++ shift (drop l.j l.bounds) ≡ shift l.bounds
