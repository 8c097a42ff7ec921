use Rattle.std.proofs.Common.{◌≡◌, ◌++◌, drop}
use Rattle.equational_law.specs.Standing.{spread}
use Rattle.equational_rows.specs.Built.{signed}
use Rattle.equational_rows.proofs.rows.push_spread.Given as goal

-- what is done and what is left give the whole
abbrev pub invariant-loop-j : goal.invariant-loop-j
invariant-loop-j l = l.entries.items ++ signed l.negated (spread (drop l.j l.bounds) (drop l.j l.row)) ≡ l.initial.entries.items ++ signed l.negated (spread l.bounds l.row)
