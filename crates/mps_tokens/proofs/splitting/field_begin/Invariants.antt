use Rattle.std.proofs.Common.{◌≡◌, ◌+◌, ◌-◌, ◌≤◌, length, drop}
use Rattle.std.specs.List.{prefix_len}
use Rattle.mps_tokens.specs.FieldsOf.{is_blank}
use Rattle.mps_tokens.proofs.splitting.field_begin.Given as goal

abbrev pub invariant-loop-begin : goal.invariant-loop-begin
invariant-loop-begin l =
    (l.begin ≤ length l.line) × (l.begin + prefix_len is_blank (drop l.begin l.line) ≡ l.at + prefix_len is_blank (drop l.at l.line))

abbrev pub decreases-loop-begin : goal.decreases-loop-begin
decreases-loop-begin l = length l.line - l.begin
