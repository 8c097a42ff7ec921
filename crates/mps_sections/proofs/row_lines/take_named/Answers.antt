use Rattle.std.proofs.Common.{sym, ap, ◌∙◌}
use Rattle.std.specs.Prelude.{is_some}
use Rattle.program_law.specs.Places.{place_of}
use Rattle.named_things.specs.Named.{names_of}
use Rattle.mps_sections.proofs.RowLines.{row_put, none_found}
use Rattle.mps_sections.proofs.row_lines.take_named.Goals as goal

pub returns : goal.returns
returns c =
    let absent = none_found (place_of (names_of c.args.notes.now.rows) c.args.name.now) (ap (λ l. is_some (place_of l c.args.name.now)) (sym c.names.ensures.names) ∙ ap is_some (sym c.find.ensures.place) ∙ sym c.if-is_some.ensures) in
    row_put c.args.notes.now c.args.kind c.args.name.now c.push.new.self c.requires.sound c.names.ensures.good (sym c.if-is_marker_name.ensures) (sym c.if-is_long.ensures) absent (sym c.if-is_full.ensures) c.in_ok-push.ensures
