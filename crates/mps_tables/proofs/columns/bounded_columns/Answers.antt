use Rattle.mps_tables.proofs.ByRows.{bound-step}
use Rattle.mps_tables.proofs.columns.bounded_columns.Goals as goal

pub loop-bound-preserved : goal.loop-bound-preserved
loop-bound-preserved c =
    bound-step c.args.draft.now.columns c.bounds-bounds.result.now c.loop-bound.bound-index c.bound-item.result c.loop-bound.columns.items c.index_mut-column.result.now c.bounded.result c.unbounded_columns.ensures.differ c.bounds-bounds.ensures.within
    c.loop-bound-test.true c.bound-item.is c.loop-bound.invariant c.index_mut-column.ensures.value c.bounded.ensures
