use Rattle.std.proofs.Common.{◌≡◌, ◌-◌, ◌≤◌, ◌++◌, length, take, drop, map}
use Rattle.mps_tokens.specs.FieldsOf.{fields_of, span_of, AreWithin}
use Rattle.mps_tokens.proofs.splitting.fields.Given as goal

abbrev pub invariant-loop-count : goal.invariant-loop-count
invariant-loop-count l =
    (l.count ≤ 6) × (l.at ≤ length l.line) × (length l.spans ≡ 6) × (map (span_of l.line) (take l.count l.spans) ++ fields_of (drop l.at l.line) ≡ fields_of l.line) × AreWithin l.line l.spans l.count

abbrev pub decreases-loop-count : goal.decreases-loop-count
decreases-loop-count l = 6 - l.count
