use Rattle.std.proofs.Common.{Ok, Err, sym}
use Rattle.mps_tokens.specs.Numbers.{number_of}
use Rattle.named_things.specs.Named.{names_of}
use Rattle.mps_fields.specs.Views.{viewed_pairs}
use Rattle.mps_notes.proofs.Puts.{items_within, within_length, resolved}
use Rattle.mps_sections.proofs.SideLines.{sides_fail, sides_go}
use Rattle.mps_sections.proofs.sides.take_sides.Goals as goal

pub take_items-requires-clause-items : goal.take_items-requires-clause-items
take_items-requires-clause-items c =
    let found = resolved (names_of c.names.result.now) (names_of c.args.rows.now) number_of (viewed_pairs c.in-Some.entries.pairs) (Ok c.in-Ok.items) c.names.ensures.names c.in-Ok.ensures in
    within_length c.args.rows.now c.in-Ok.items.first c.in-Ok.items.second (items_within (names_of c.args.rows.now) number_of (viewed_pairs c.in-Some.entries.pairs) c.in-Ok.items.first c.in-Ok.items.second found.1)

pub returns-in-Ok : goal.returns-in-Ok
returns-in-Ok c = λ told same.
    let pairs = viewed_pairs c.in-Some.entries.pairs in
    let found = resolved (names_of c.names.result.now) (names_of c.args.rows.now) number_of pairs (Ok c.in-Ok.items) c.names.ensures.names c.in-Ok.ensures in
    sides_go c.args.rows.now c.args.sides.now c.take_items.new.sides c.args.line c.args.fields.now c.in-Some.entries.head.now pairs told same c.in-Some.ensures (sym c.if-has_long.ensures) c.take_items.result found.0 (c.take_items.ensures pairs found.1)

pub returns-in-Err : goal.returns-in-Err
returns-in-Err c = λ told same.
    let pairs = viewed_pairs c.in-Some.entries.pairs in
    let found = resolved (names_of c.names.result.now) (names_of c.args.rows.now) number_of pairs (Err c.in-Err.kind) c.names.ensures.names c.in-Err.ensures in
    sides_fail c.args.rows.now c.args.sides.now c.args.sides.now c.args.line c.args.fields.now c.in-Some.entries.head.now pairs told same c.in-Some.ensures (sym c.if-has_long.ensures) c.in-Err.kind found
