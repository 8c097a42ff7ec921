use Rattle.std.proofs.Common.{sym, ◌∙◌, arith}
use Rattle.named_things.specs.Named.{names_of}
use Rattle.named_things.proofs.PlaceLemmas.{place_below}
use Rattle.mps_notes.proofs.RowLemmas.{names_length}
use Rattle.mps_sections.proofs.EntryLines.{column_put}
use Rattle.mps_sections.proofs.columns.place_column.Goals as goal

pub returns-in-Some-clause-within : goal.returns-in-Some-clause-within
returns-in-Some-clause-within c = omega (arith, place_below (names_of c.args.columns.now) c.args.name.now c.in-Some.place (sym c.requires.found ∙ c.in-Some.is), names_length c.args.columns.now, c.requires.few)

pub returns-clause-column : goal.returns-clause-column
returns-clause-column c =
    column_put c.args.columns.now c.push.new.self c.args.name.now c.in_ok-name.name.items c.args.marked c.len-place.result c.in_ok-name.ensures.items (sym c.requires.found ∙ c.in_default.is) (omega (arith, c.len-place.ensures.len)) c.len-place.ensures.len c.in_ok-push.ensures.ok
