use Rattle.std.proofs.Common.{Ok, Err, sym}
use Rattle.named_things.specs.Named.{names_of}
use Rattle.mps_grammar.specs.Told.{quadratic_number}
use Rattle.mps_fields.specs.Views.{viewed_pairs}
use Rattle.mps_notes.proofs.Puts.{items_within, within_length}
use Rattle.mps_sections.proofs.PairLines.{resolved_half, pairs_fail, pairs_go}
use Rattle.mps_sections.proofs.quadratic.take_pairs.Goals as goal

pub take_items-requires-clause-items : goal.take_items-requires-clause-items
take_items-requires-clause-items c =
    let columns = c.args.notes.now.columns in
    let pairs = viewed_pairs c.in-Some.entries.pairs in
    let found = resolved_half (names_of columns) c.args.section c.gives_half.result pairs (Ok c.in-Ok.items) c.gives_half.ensures c.in-Ok.ensures in
    within_length columns c.in-Ok.items.first c.in-Ok.items.second (items_within (names_of columns) (quadratic_number c.args.section) pairs c.in-Ok.items.first c.in-Ok.items.second found.1)

pub returns-in-Ok : goal.returns-in-Ok
returns-in-Ok c =
    let name = c.in-Some.entries.head.now in
    let pairs = viewed_pairs c.in-Some.entries.pairs in
    let found = resolved_half (names_of c.args.notes.now.columns) c.args.section c.gives_half.result pairs (Ok c.in-Ok.items) c.gives_half.ensures c.in-Ok.ensures in
    pairs_go c.args.notes.now c.take_items.new.notes c.args.fields.now name pairs c.in-Some-find.column c.in-Some.ensures (sym c.if-has_long.ensures) (sym c.in-Some-find.ensures.place) c.args.section c.take_items.result c.requires.quadratic found.0
    (c.take_items.ensures name pairs (sym c.in-Some-find.ensures.place) found.1)

pub returns-in-Err : goal.returns-in-Err
returns-in-Err c =
    let pairs = viewed_pairs c.in-Some.entries.pairs in
    let found = resolved_half (names_of c.args.notes.now.columns) c.args.section c.gives_half.result pairs (Err c.in-Err.kind) c.gives_half.ensures c.in-Err.ensures in
    pairs_fail c.args.notes.now c.args.notes.now c.args.fields.now c.in-Some.entries.head.now pairs c.in-Some-find.column c.in-Some.ensures (sym c.if-has_long.ensures) (sym c.in-Some-find.ensures.place) c.args.section c.in-Err.kind c.requires.quadratic found
