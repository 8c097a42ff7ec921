use Rattle.std.proofs.Common.{◌≡◌, take}
use Rattle.named_things.specs.Named.{names_of}
use Rattle.mps_notes.specs.Told.{tellings_of}
use Rattle.mps_assembly.specs.Assembled.{assembled}
use Rattle.mps_assembly.proofs.numbers.set_pairs.Given as goal

abbrev pub invariant-loop-pair : goal.invariant-loop-pair
invariant-loop-pair l = l.program ≡ assembled l.draft l.draft.entries (tellings_of (names_of l.draft.columns) (names_of l.draft.columns) (take l.pair-index l.pairs))
