-- those so far are small
use Rattle.std.proofs.Common.{ℕ, ◌<◌}
use Rattle.mps_writer_law.specs.Canonical.{sides_at}
use Rattle.mps_writer_law.specs.Small.{HasSmallSides}
use Rattle.mps_writer.proofs.small.show_rows.Given as goal

abbrev pub invariant-loop-i : goal.invariant-loop-i
invariant-loop-i l = (k : ℕ) → k < l.i → HasSmallSides (sides_at l.p k)
