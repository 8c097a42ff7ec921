use Rattle.std.proofs.Common.{◌≡◌, ◌+◌, drop}
use Rattle.program_law.specs.Program.{sides}
use Rattle.cert_check_law.specs.Ray.{rows_keep}
use Rattle.check_parts.proofs.rays.rows_keep.Given as goal

-- what is done so far and what is left give the whole
abbrev pub invariant-loop-i : goal.invariant-loop-i
invariant-loop-i l = rows_keep (l.i + 1) (drop l.i (sides l.p)) (drop l.i l.p.entries) l.d ≡ rows_keep 1 (sides l.p) l.p.entries l.d
