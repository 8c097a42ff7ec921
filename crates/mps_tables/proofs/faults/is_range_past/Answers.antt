use Rattle.std.proofs.Common.{◌∙◌, ◌<◌, length, arith}
use Rattle.named_things.specs.Named.{names_of}
use Rattle.mps_tables.proofs.ByRows.{length_names}
use Rattle.mps_tables.proofs.FirstLines.{range-test}
use Rattle.mps_tables.proofs.faults.is_range_past.Goals as goal

pub returns : goal.returns
returns c =
    let within : c.args.range.now.row < length (names_of c.args.draft.now.rows) = omega (arith, c.requires.row, length_names c.args.draft.now.rows) in
    c.makes_past.ensures ∙ range-test c.args.draft.now c.args.range.now c.row_kind-kind.result c.at.result c.args.rights.now c.rows-rows.ensures.differ c.requires.row c.row_kind-kind.ensures c.requires.rights c.at.ensures within
