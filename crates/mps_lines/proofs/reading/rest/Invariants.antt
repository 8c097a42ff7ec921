use Rattle.std.proofs.Common.{◌-◌, length}
use Rattle.mps_lines.specs.Reading.{spot_of}
use Rattle.mps_lines.proofs.Histories.{IsPassed}
use Rattle.mps_lines.proofs.reading.rest.Given as goal

abbrev pub invariant-loop-at : goal.invariant-loop-at
invariant-loop-at l = IsPassed l.text (spot_of l.fn.place) l.at l.line

abbrev pub decreases-loop-at : goal.decreases-loop-at
decreases-loop-at l = length l.text - l.at
