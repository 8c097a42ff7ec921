use Rattle.std.proofs.Common.{◌≡◌, take, None}
use Rattle.named_things.specs.Named.{names_of}
use Rattle.mps_grammar.specs.Programs.{first_line, is_lopsided}
use Rattle.mps_notes.specs.Told.{tellings_of}
use Rattle.mps_tables.proofs.faults.lopsided.Given as goal

abbrev pub invariant-loop-pair : goal.invariant-loop-pair
invariant-loop-pair l = first_line (is_lopsided l.draft.pairs) (tellings_of (names_of l.draft.columns) (names_of l.draft.columns) (take l.pair-index l.pairs)) ≡ None
