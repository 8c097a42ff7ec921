use Rattle.std.proofs.Common.{ap}
use Rattle.mps_sections.proofs.PairLines.{test_from, given_twice, pairs_put}
use Rattle.mps_sections.proofs.quadratic.take_items.Goals as goal

pub returns-then-gives_pair_twice : goal.returns-then-gives_pair_twice
returns-then-gives_pair_twice c = λ name pairs at items.
    given_twice c.args.notes.now c.args.section name pairs c.args.column c.args.items.now.first c.args.items.now.second c.requires.sound at items
    (test_from c.args.notes.now c.args.section name pairs c.args.column c.args.items.now.first c.args.items.now.second c.requires.sound at items _ _ c.gives_once.ensures c.if-gives_pair_twice.ensures)

pub returns : goal.returns
returns c = λ name pairs at items.
    let places = c.column_places-places.ensures in
    pairs_put c.args.notes.now c.args.section name pairs c.args.column c.args.items.now.first c.args.items.now.second c.requires.sound at items _ _ c.put_items.new.numbers
    (test_from c.args.notes.now c.args.section name pairs c.args.column c.args.items.now.first c.args.items.now.second c.requires.sound at items _ _ c.gives_once.ensures c.if-gives_pair_twice.ensures)
    (ap (λ p. p.first) places) (ap (λ p. p.second) places) c.in_ok-put_items.ensures
