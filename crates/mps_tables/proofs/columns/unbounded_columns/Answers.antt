use Rattle.std.proofs.Common.{◌<◌, length, arith}
use Rattle.mps_tables.proofs.ByRows.{column-step}
use Rattle.mps_tables.proofs.columns.unbounded_columns.Goals as goal

pub loop-column-preserved : goal.loop-column-preserved
loop-column-preserved c =
    let within : c.loop-column.column < length c.args.draft.now.columns = omega arith in
    column-step c.args.draft.now.columns c.loop-column.column c.column_mark.result c.whole.result c.loop-column.columns.items _ within c.column_mark.ensures c.whole.ensures c.loop-column.invariant c.in_ok-push.ensures.items
