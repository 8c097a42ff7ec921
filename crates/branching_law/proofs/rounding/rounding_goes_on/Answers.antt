use Rattle.std.proofs.Common.{inl}
use Rattle.branching_law.proofs.RoundingLoop.{starts, raise_low, lower_high, next_column, all_columns}
use Rattle.branching_law.proofs.rounding.rounding_goes_on.Goals as goal

pub returns : goal.returns
returns c = record {
  starts = starts;
  low = raise_low;
  high = lower_high;
  next = next_column;
  ends = all_columns;
  crossed = λ p turns j h crossed. record { turns_due = h.turns_due; ends = inl crossed };
}
