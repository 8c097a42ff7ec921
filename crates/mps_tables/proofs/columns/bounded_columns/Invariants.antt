use Rattle.std.proofs.Common.{◌≡◌, take}
use Rattle.named_things.specs.Named.{names_of}
use Rattle.mps_notes.specs.Told.{bounds_of}
use Rattle.mps_tables.specs.Bounding.{boundings_of}
use Rattle.mps_tables.proofs.columns.bounded_columns.Given as goal

abbrev pub invariant-loop-bound : goal.invariant-loop-bound
invariant-loop-bound l = l.columns.items ≡ boundings_of l.draft.columns (bounds_of (names_of l.draft.columns) (take l.bound-index l.bounds))
