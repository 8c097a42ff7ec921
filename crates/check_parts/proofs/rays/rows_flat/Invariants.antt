use Rattle.std.proofs.Common.{◌≡◌, ◌+◌, drop}
use Rattle.cert_check_law.specs.Ray.{rows_flat}
use Rattle.check_parts.proofs.rays.rows_flat.Given as goal

-- what is done so far and what is left give the whole
abbrev pub invariant-loop-j : goal.invariant-loop-j
invariant-loop-j l = rows_flat (l.j + 1) (drop l.j l.p.pairs) l.d ≡ rows_flat 1 l.p.pairs l.d
