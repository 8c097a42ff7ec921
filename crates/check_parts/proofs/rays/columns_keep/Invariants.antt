use Rattle.std.proofs.Common.{◌≡◌, ◌+◌, drop}
use Rattle.program_law.specs.Program.{bounds}
use Rattle.cert_check_law.specs.Ray.{columns_keep}
use Rattle.check_parts.proofs.rays.columns_keep.Given as goal

-- what is done so far and what is left give the whole
abbrev pub invariant-loop-j : goal.invariant-loop-j
invariant-loop-j l = columns_keep (l.j + 1) (drop l.j (bounds l.p)) (drop l.j l.d) ≡ columns_keep 1 (bounds l.p) l.d
