use Rattle.std.proofs.Common.{sym, ◌∙◌, arith}
use Rattle.mps_assembly.proofs.Additions.{row-passed}
use Rattle.mps_assembly.proofs.building.add_each_row.Goals as goal
use Rattle.mps_assembly.proofs.building.add_each_row.Goals.{then-is_bound+in_ok-add_row, else-is_bound}

pub loop-row-preserved : goal.loop-row-preserved
loop-row-preserved c = elim c.if-is_bound.branch [
  | then-is_bound+in_ok-add_row w ↦ w.program-is ∙ w.in_ok-add_row.ensures
  | else-is_bound w ↦ w.program-is ∙ row-passed c.args.draft.now c.loop-row.row c.row_kind-kind.result c.loop-row.program (omega arith) c.row_kind-kind.ensures (sym w.if-is_bound.ensures) c.loop-row.invariant
]
