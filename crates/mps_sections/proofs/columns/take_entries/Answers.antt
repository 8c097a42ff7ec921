use Rattle.std.proofs.Common.{Ok, Err, sym}
use Rattle.mps_tokens.specs.Numbers.{number_of}
use Rattle.named_things.specs.Named.{names_of}
use Rattle.mps_fields.specs.Views.{viewed_pairs}
use Rattle.mps_fields.proofs.Words.{word_name, entries_word, head_short}
use Rattle.mps_notes.proofs.Puts.{items_within, within_length, resolved}
use Rattle.mps_sections.proofs.EntryLines.{entries_fail, entries_go}
use Rattle.mps_sections.proofs.columns.take_entries.Goals as goal

pub take_items-requires-clause-name : goal.take_items-requires-clause-name
take_items-requires-clause-name c =
    let head = c.in-Some.entries.head.now in
    let pairs = viewed_pairs c.in-Some.entries.pairs in
    word_name head (entries_word c.args.fields.now head pairs c.requires.words c.in-Some.ensures) (head_short head pairs (sym c.if-has_long.ensures))

pub take_items-requires-clause-items : goal.take_items-requires-clause-items
take_items-requires-clause-items c =
    let found = resolved (names_of c.names.result.now) (names_of c.args.notes.now.rows) number_of (viewed_pairs c.in-Some.entries.pairs) (Ok c.in-Ok.items) c.names.ensures.names c.in-Ok.ensures in
    within_length c.args.notes.now.rows c.in-Ok.items.first c.in-Ok.items.second (items_within (names_of c.args.notes.now.rows) number_of (viewed_pairs c.in-Some.entries.pairs) c.in-Ok.items.first c.in-Ok.items.second found.1)

pub returns-in-Ok : goal.returns-in-Ok
returns-in-Ok c =
    let found = resolved (names_of c.names.result.now) (names_of c.args.notes.now.rows) number_of (viewed_pairs c.in-Some.entries.pairs) (Ok c.in-Ok.items) c.names.ensures.names c.in-Ok.ensures in
    let pairs = viewed_pairs c.in-Some.entries.pairs in
    entries_go c.args.notes.now c.take_items.new.notes c.args.fields.now c.in-Some.entries.head.now pairs c.requires.no_marker c.in-Some.ensures (sym c.if-has_long.ensures) c.take_items.result found.0 (c.take_items.ensures pairs found.1)

pub returns-in-Err : goal.returns-in-Err
returns-in-Err c =
    let found = resolved (names_of c.names.result.now) (names_of c.args.notes.now.rows) number_of (viewed_pairs c.in-Some.entries.pairs) (Err c.in-Err.kind) c.names.ensures.names c.in-Err.ensures in
    entries_fail c.args.notes.now c.args.notes.now c.args.fields.now c.in-Some.entries.head.now (viewed_pairs c.in-Some.entries.pairs) c.requires.no_marker c.in-Some.ensures (sym c.if-has_long.ensures) c.in-Err.kind found
