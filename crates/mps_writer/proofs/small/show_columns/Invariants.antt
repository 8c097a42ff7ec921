-- those so far are small
use Rattle.std.proofs.Common.{ℕ, ◌<◌}
use Rattle.mps_writer_law.specs.Canonical.{bounds_at}
use Rattle.mps_writer_law.specs.Small.{HasSmallSides}
use Rattle.mps_writer.proofs.small.show_columns.Given as goal

abbrev pub invariant-loop-j : goal.invariant-loop-j
invariant-loop-j l = (k : ℕ) → k < l.j → HasSmallSides (bounds_at l.p k)
