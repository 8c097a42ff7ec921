use Rattle.std.proofs.Common.{◌≡◌, ◌≤◌, ◌+◌, ◌*◌, drop}
use Rattle.equational_law.specs.Standing.{parts}
use Rattle.equational_rows.proofs.layout.all_parts.Given as goal

-- the count so far and what is left give the whole
abbrev pub invariant-loop-j : goal.invariant-loop-j
invariant-loop-j l = (l.count + parts (drop l.j l.bounds) ≡ parts l.bounds) × (l.count ≤ 2 * l.j)
