use Rattle.std.proofs.Common.{◌≡◌, take, None}
use Rattle.named_things.specs.Named.{names_of}
use Rattle.mps_grammar.specs.Programs.{first_line, is_range_past}
use Rattle.mps_notes.specs.Told.{tellings_of}
use Rattle.mps_notes.specs.Notes.{no_column}
use Rattle.mps_tables.proofs.faults.range_past.Given as goal

abbrev pub invariant-loop-range : goal.invariant-loop-range
invariant-loop-range l = first_line (is_range_past l.draft) (tellings_of no_column (names_of l.draft.rows) (take l.range-index l.ranges)) ≡ None
