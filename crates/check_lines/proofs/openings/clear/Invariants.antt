use Rattle.std.proofs.Common.{◌≡◌}
use Rattle.check_lines.proofs.Zeroed.{zeroed}
use Rattle.check_lines.proofs.openings.clear.Given as goal

abbrev pub invariant-loop-i : goal.invariant-loop-i
invariant-loop-i l = l.entries ≡ zeroed l.i l.fn.entries
