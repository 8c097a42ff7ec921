-- those so far are small
use Rattle.std.proofs.Common.{ℕ, ◌<◌}
use Rattle.rational.specs.Rational.{Fits}
use Rattle.frac_core.specs.Parts.{max_part}
use Rattle.rational.specs.Sums.{entry}
use Rattle.mps_writer.proofs.small.show_each.Given as goal

abbrev pub invariant-loop-number : goal.invariant-loop-number
invariant-loop-number l = (k : ℕ) → k < l.number-index → Fits max_part (entry l.numbers k)
