use Rattle.std.proofs.Common.{◌≡◌, false, ap}
use Rattle.std.proofs.lemmas.Result.{err_from_is_err_and}
use Rattle.mps_grammar.specs.Told.{is_told}
use Rattle.mps_grammar.specs.Faults.{gives_twice}
use Rattle.mps_notes.specs.Notes.{told_in}
use Rattle.mps_notes.specs.Twice.{is_counted}
use Rattle.mps_sections.proofs.EntryLines.{test_from, given_twice, column_fails, items_put}
use Rattle.mps_sections.proofs.columns.take_items.Goals as goal

pub returns-then-gives_twice : goal.returns-then-gives_twice
returns-then-gives_twice c = λ pairs items.
    let n = c.args.notes.now in
    let places = c.row_places-places.ensures.places in
    given_twice n c.args.name.now pairs c.args.items.now.first c.args.items.now.second c.requires.sound items
    (test_from n c.args.name.now pairs c.args.items.now.first c.args.items.now.second c.requires.sound items _ _ _ _ c.find-found.ensures.place (ap (λ p. p.first) places) (ap (λ p. p.second) places) c.if-gives_twice.ensures)

pub returns-in_err-column : goal.returns-in_err-column
returns-in_err-column c = λ pairs items.
    let n = c.args.notes.now in
    let places = c.row_places-places.ensures.places in
    let p = err_from_is_err_and c.from_residual.result c.from_residual.ensures.1 in
    let test : gives_twice (is_counted n.rows) (is_told (told_in n).entries c.args.name.now) pairs ≡ false =
    test_from n c.args.name.now pairs c.args.items.now.first c.args.items.now.second c.requires.sound items _ _ _ _ c.find-found.ensures.place (ap (λ p. p.first) places) (ap (λ p. p.second) places) c.if-gives_twice.ensures in
    rw (p.1, p.2) (column_fails n c.args.name.now pairs c.args.items.now.first c.args.items.now.second c.requires.sound items c.place_column.new.columns (record n { columns = c.place_column.new.columns }) c.in_err-column.field-0.0 test c.in_err-column.ensures.column)

pub returns : goal.returns
returns c = λ pairs items.
    let n = c.args.notes.now in
    let places = c.row_places-places.ensures.places in
    let test : gives_twice (is_counted n.rows) (is_told (told_in n).entries c.args.name.now) pairs ≡ false =
    test_from n c.args.name.now pairs c.args.items.now.first c.args.items.now.second c.requires.sound items _ _ _ _ c.find-found.ensures.place (ap (λ p. p.first) places) (ap (λ p. p.second) places) c.if-gives_twice.ensures in
    items_put n c.args.name.now pairs c.args.items.now.first c.args.items.now.second c.requires.sound items c.place_column.new.columns _ _ _ c.put_items.new.numbers c.requires.name test c.in_ok-column.ensures.column (ap (λ p. p.first) places) (ap (λ p. p.second) places) c.in_ok-put_items.ensures
