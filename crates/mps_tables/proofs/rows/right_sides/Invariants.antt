use Rattle.std.proofs.Common.{◌≡◌, take}
use Rattle.named_things.specs.Named.{names_of}
use Rattle.mps_notes.specs.Told.{tellings_of}
use Rattle.mps_notes.specs.Notes.{no_column}
use Rattle.mps_tables.specs.ByRow.{rights_of}
use Rattle.mps_tables.proofs.rows.right_sides.Given as goal

abbrev pub invariant-loop-side : goal.invariant-loop-side
invariant-loop-side l = l.rights ≡ rights_of (names_of l.draft.rows) (tellings_of no_column (names_of l.draft.rows) (take l.side-index l.sides))
