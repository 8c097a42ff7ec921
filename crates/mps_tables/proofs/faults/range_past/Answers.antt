use Rattle.std.proofs.Common.{sym, ap, ◌∙◌}
use Rattle.named_things.specs.Named.{names_of}
use Rattle.mps_grammar.specs.Programs.{first_line, is_range_past}
use Rattle.mps_notes.specs.Told.{telling_of}
use Rattle.mps_notes.specs.Notes.{no_column}
use Rattle.mps_tables.proofs.FirstLines.{line-first}
use Rattle.mps_tables.proofs.faults.range_past.Goals as goal

pub returns-then-is_range_past : goal.returns-then-is_range_past
returns-then-is_range_past c =
    sym (ap (first_line (is_range_past c.args.draft.now)) c.ranges-ranges.ensures.told
    ∙ line-first (telling_of no_column (names_of c.args.draft.now.rows)) (is_range_past c.args.draft.now) c.ranges-ranges.result.now c.loop-range.range-index c.range-item.result c.loop-range-test.true c.range-item.is c.loop-range.invariant
    (sym c.if-is_range_past.ensures))
