use Rattle.std.proofs.Common.{◌≡◌, drop}
use Rattle.rational.specs.Rational.{zero_ℚ}
use Rattle.program_law.specs.Program.{sides}
use Rattle.cert_check_law.specs.Leaf.{with_rows}
use Rattle.check_parts.proofs.leaves.rows_added.Given as goal

-- what is done so far and what is left give the whole
abbrev pub invariant-loop-i : goal.invariant-loop-i
invariant-loop-i l = with_rows l.node l.sum (drop l.i l.y) (drop l.i (sides l.p)) ≡ with_rows l.node zero_ℚ l.y (sides l.p)
