use Rattle.std.proofs.Common.{◌≡◌, take, []}
use Rattle.mps_tables.specs.Bounding.{boundings_of}
use Rattle.mps_tables.proofs.columns.unbounded_columns.Given as goal

abbrev pub invariant-loop-column : goal.invariant-loop-column
invariant-loop-column l = l.columns.items ≡ boundings_of (take l.column l.draft.columns) []
