use Rattle.std.proofs.Common.{◌≡◌, drop}
use Rattle.rational.specs.Vectors.{column}
use Rattle.cert_check_law.specs.Dot.{dot_from, dot_of}
use Rattle.check_parts.proofs.leaves.column_dot.Given as goal

-- what is done so far and what is left give the whole
abbrev pub invariant-loop-i : goal.invariant-loop-i
invariant-loop-i l = dot_from l.total (column l.j (drop l.i l.p.entries)) (drop l.i l.y) ≡ dot_of (column l.j l.p.entries) l.y
