use Rattle.std.proofs.Common.{◌≡◌, ◌+◌, drop}
use Rattle.program_law.specs.Program.{marks}
use Rattle.cert_check_law.specs.Point.{columns_within}
use Rattle.program_model.proofs.points.columns_tested.Given as goal

-- what is done so far and what is left give the whole
abbrev pub invariant-loop-j : goal.invariant-loop-j
invariant-loop-j l = columns_within (l.j + 1) (drop l.j l.region) (drop l.j (marks l.p)) (drop l.j l.x) ≡ columns_within 1 l.region (marks l.p) l.x
