use Rattle.std.proofs.Common.{refl, ◌∙◌}
use Rattle.named_things.specs.Named.{names_of}
use Rattle.mps_tables.proofs.ByRows.{table-begins, table-step}
use Rattle.mps_tables.proofs.rows.ranges.Goals as goal

pub loop-range-init : goal.loop-range-init
loop-range-init c = c.in_ok-ranges.ensures ∙ table-begins (λ o. o) c.args.draft.now.rows c.rows.result _ c.rows.ensures.count refl

pub loop-range-preserved : goal.loop-range-preserved
loop-range-preserved c =
    table-step (λ o. o) (names_of c.args.draft.now.rows) c.ranges-told.result.now _ c.loop-range.range-index c.range-item.result c.loop-range.ranges _ c.rows.ensures.differ c.ranges-told.ensures.within c.loop-range-test.true c.range-item.is
    c.loop-range.invariant c.set.ensures
