use Rattle.std.proofs.Common.{sym}
use Rattle.mps_assembly.proofs.Additions.{objective-at, objective-none}
use Rattle.mps_assembly.proofs.building.objective_row.Goals as goal

pub returns-then-not-is_bound-clause-objective : goal.returns-then-not-is_bound-clause-objective
returns-then-not-is_bound-clause-objective c = objective-at c.args.draft.now.rows c.loop-row.row c.row_kind.result c.row_kind.ensures c.loop-row.invariant (sym c.if-not-is_bound.ensures)

pub loop-row-preserved : goal.loop-row-preserved
loop-row-preserved c = objective-none c.args.draft.now.rows c.loop-row.row c.row_kind.result c.row_kind.ensures c.loop-row.invariant (sym c.if-not-is_bound.ensures)
