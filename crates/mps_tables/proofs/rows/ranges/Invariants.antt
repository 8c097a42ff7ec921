use Rattle.std.proofs.Common.{◌≡◌, take}
use Rattle.named_things.specs.Named.{names_of}
use Rattle.mps_notes.specs.Told.{tellings_of}
use Rattle.mps_notes.specs.Notes.{no_column}
use Rattle.mps_tables.specs.ByRow.{ranges_of}
use Rattle.mps_tables.proofs.rows.ranges.Given as goal

abbrev pub invariant-loop-range : goal.invariant-loop-range
invariant-loop-range l = l.ranges ≡ ranges_of (names_of l.draft.rows) (tellings_of no_column (names_of l.draft.rows) (take l.range-index l.told))
