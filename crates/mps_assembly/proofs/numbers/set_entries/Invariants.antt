use Rattle.std.proofs.Common.{◌≡◌, take, []}
use Rattle.named_things.specs.Named.{names_of}
use Rattle.mps_notes.specs.Told.{tellings_of}
use Rattle.mps_assembly.specs.Assembled.{assembled}
use Rattle.mps_assembly.proofs.numbers.set_entries.Given as goal

abbrev pub invariant-loop-entry : goal.invariant-loop-entry
invariant-loop-entry l = l.program ≡ assembled l.draft (tellings_of (names_of l.draft.columns) (names_of l.draft.rows) (take l.entry-index l.entries)) []
