use Rattle.std.proofs.Common.{◌≡◌, ◌≤◌, ◌+◌, drop}
use Rattle.equational_law.specs.Equations.{bound_slacks}
use Rattle.equational_rows.proofs.layout.all_bound_slacks.Given as goal

-- the count so far and what is left give the whole
abbrev pub invariant-loop-j : goal.invariant-loop-j
invariant-loop-j l = (l.count + bound_slacks (drop l.j l.bounds) ≡ bound_slacks l.bounds) × (l.count ≤ l.j)
