use Rattle.std.proofs.Common.{◌≡◌, true, false, sym, ap, ◌∙◌}
use Rattle.mps_sections.proofs.SideLines.{test_from, given_twice, sides_put}
use Rattle.mps_sections.proofs.sides.take_items.Goals as goal
use Rattle.mps_sections.proofs.sides.take_items.Goals.{else-used-via-then-used+else-gives_twice, else-used-via-else-used}

pub returns-then-gives_twice : goal.returns-then-gives_twice
returns-then-gives_twice c = λ pairs items.
    let places = c.row_places-places.ensures.places in
    given_twice c.args.rows.now c.args.sides.now c.args.line c.args.set.now pairs c.args.items.now.first c.args.items.now.second c.requires.entries items (sym c.if-used.ensures)
    (test_from c.args.rows.now c.args.sides.now c.args.line c.args.set.now pairs c.args.items.now.first c.args.items.now.second c.requires.entries items _ _ _ (ap (λ p. p.first) places) (ap (λ p. p.second) places) c.if-gives_twice.ensures)

pub returns-in_ok-put_items : goal.returns-in_ok-put_items
returns-in_ok-put_items c = λ pairs items.
    let places = c.row_places-places.ensures.places in
    let used = sym c.is_used-used.ensures ∙ c.if-used-2.true in
    elim c.else-used.branch [
      | else-used-via-then-used+else-gives_twice w ↦
          sides_put c.args.rows.now c.args.sides.now c.args.line c.args.set.now pairs c.args.items.now.first c.args.items.now.second c.requires.entries items _ _ _ used
          (test_from c.args.rows.now c.args.sides.now c.args.line c.args.set.now pairs c.args.items.now.first c.args.items.now.second c.requires.entries items _ _ _ (ap (λ p. p.first) places) (ap (λ p. p.second) places) w.if-gives_twice.ensures)
          (ap (λ p. p.first) places) (ap (λ p. p.second) places) c.in_ok-name_set.ensures c.in_ok-put_items.ensures
      | else-used-via-else-used w ↦ let apart : true ≡ false = sym c.if-used-2.true ∙ w.if-used.false in absurd cc
    ]
