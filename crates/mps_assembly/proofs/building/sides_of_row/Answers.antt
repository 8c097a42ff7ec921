use Rattle.std.proofs.Common.{sym, ◌∙◌}
use Rattle.mps_assembly.proofs.Additions.{sides_read, is_none, is_some}
use Rattle.mps_assembly.proofs.building.sides_of_row.Goals as goal

pub unreachable-requires : goal.unreachable-requires
unreachable-requires c =
    is_none (sym c.in-None.is ∙ c.sides.ensures.sides
    ∙ sides_read c.args.draft.now c.args.rights.now c.args.ranges.now c.args.row c.args.kind c.at-right.result c.at-range.result c.requires.sides c.rows-rows.ensures.differ c.requires.row c.requires.kind c.at-right.ensures c.at-range.ensures)

pub returns-clause-sides : goal.returns-clause-sides
returns-clause-sides c =
    is_some (sym c.in-Some.is ∙ c.sides.ensures.sides
    ∙ sides_read c.args.draft.now c.args.rights.now c.args.ranges.now c.args.row c.args.kind c.at-right.result c.at-range.result c.requires.sides c.rows-rows.ensures.differ c.requires.row c.requires.kind c.at-right.ensures c.at-range.ensures)
