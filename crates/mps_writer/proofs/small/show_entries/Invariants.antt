-- those so far are small
use Rattle.std.proofs.Common.{ℕ, ◌<◌, length}
use Rattle.rational.specs.Rational.{Fits}
use Rattle.frac_core.specs.Parts.{max_part}
use Rattle.rational.specs.Sums.{entry}
use Rattle.rational.specs.Vectors.{row_at}
use Rattle.mps_writer.proofs.small.show_entries.Given as goal

abbrev pub invariant-loop-i : goal.invariant-loop-i
invariant-loop-i l = (k j : ℕ) → k < l.i → j < length l.p.columns → Fits max_part (entry (row_at l.p.entries k) j)
