use Rattle.std.proofs.Common.{◌∙◌}
use Rattle.std.specs.Prelude.{unwrap_or}
use Rattle.rational.specs.Rational.{zero_ℚ}
use Rattle.named_things.specs.Named.{names_of}
use Rattle.mps_tables.proofs.ByRows.{table-begins, table-step}
use Rattle.mps_tables.proofs.rows.right_sides.Goals as goal

pub loop-side-init : goal.loop-side-init
loop-side-init c = c.in_ok-rights.ensures ∙ table-begins (λ o. unwrap_or o zero_ℚ) c.args.draft.now.rows c.rows.result _ c.rows.ensures.count c.whole.ensures

pub loop-side-preserved : goal.loop-side-preserved
loop-side-preserved c =
    table-step (λ o. unwrap_or o zero_ℚ) (names_of c.args.draft.now.rows) c.sides-sides.result.now _ c.loop-side.side-index c.side-item.result c.loop-side.rights _ c.rows.ensures.differ c.sides-sides.ensures.within c.loop-side-test.true c.side-item.is
    c.loop-side.invariant c.set.ensures
