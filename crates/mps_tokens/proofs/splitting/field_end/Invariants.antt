use Rattle.std.proofs.Common.{◌≡◌, ◌+◌, ◌-◌, ◌≤◌, length, drop}
use Rattle.std.specs.List.{position_or_len}
use Rattle.mps_tokens.specs.FieldsOf.{is_blank}
use Rattle.mps_tokens.proofs.splitting.field_end.Given as goal

abbrev pub invariant-loop-end : goal.invariant-loop-end
invariant-loop-end l =
    (l.end ≤ length l.line) × (l.end + position_or_len is_blank (drop l.end l.line) ≡ l.begin + position_or_len is_blank (drop l.begin l.line))

abbrev pub decreases-loop-end : goal.decreases-loop-end
decreases-loop-end l = length l.line - l.end
