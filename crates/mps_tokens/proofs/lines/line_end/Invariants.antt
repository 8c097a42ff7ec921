use Rattle.std.proofs.Common.{◌≡◌, ◌+◌, ◌-◌, ◌≤◌, length, drop}
use Rattle.std.specs.List.{position_or_len}
use Rattle.mps_tokens.specs.Lines.{is_line_feed}
use Rattle.mps_tokens.proofs.lines.line_end.Given as goal

abbrev pub invariant-loop-end : goal.invariant-loop-end
invariant-loop-end l =
    (l.end ≤ length l.text) × (l.end + position_or_len is_line_feed (drop l.end l.text) ≡ l.from + position_or_len is_line_feed (drop l.from l.text))

abbrev pub decreases-loop-end : goal.decreases-loop-end
decreases-loop-end l = length l.text - l.end
