use Rattle.mps_notes.proofs.Marks.{marks_none}
use Rattle.mps_notes.proofs.numbers.Numbers.new.Goals as goal

pub invariant_of-result : goal.invariant_of-result
invariant_of-result c = rw c.new.ensures.items (marks_none c.in_ok-marks.marks c.in_ok-marks.ensures)
