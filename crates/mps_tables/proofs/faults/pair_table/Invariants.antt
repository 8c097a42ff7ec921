use Rattle.std.proofs.Common.{◌≡◌, take, length}
use Rattle.named_things.specs.Named.{names_of}
use Rattle.mps_grammar.specs.Programs.{value_told}
use Rattle.mps_notes.specs.Told.{tellings_of}
use Rattle.mps_tables.specs.PairTable.{square_of}
use Rattle.mps_tables.proofs.faults.pair_table.Given as goal

abbrev pub invariant-loop-pair : goal.invariant-loop-pair
invariant-loop-pair l = record {
  columns : l.table.columns ≡ length l.draft.columns;
  rows : l.table.rows ≡ square_of (names_of l.draft.columns) (value_told (tellings_of (names_of l.draft.columns) (names_of l.draft.columns) (take l.pair-index l.pairs)));
}
