use Rattle.std.proofs.Common.{◌-◌, length}
use Rattle.mps_lines.proofs.Histories.{IsRead}
use Rattle.mps_lines.proofs.reading.take_lines.Given as goal

abbrev pub invariant-loop-at : goal.invariant-loop-at
invariant-loop-at l = IsRead l.text l.at l.lines

abbrev pub decreases-loop-at : goal.decreases-loop-at
decreases-loop-at l = length l.text - l.at
