use Rattle.std.proofs.Common.{◌≡◌, ◌++◌, replicate}
use Rattle.equational_rows.proofs.rows.push_repeated.Given as goal

-- so many were appended
abbrev pub invariant-loop : goal.invariant-loop
invariant-loop l = l.entries.items ≡ l.initial.entries.items ++ replicate l.counter l.x
