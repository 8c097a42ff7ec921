use Rattle.std.proofs.Common.{ap, ◌∙◌}
use Rattle.rational.specs.Rational.{ℚ}
use Rattle.exact_matrix.specs.Grid.{Grid}
use Rattle.form_problems.proofs.Assembled.{high_of, price_made, wide_of}
use Rattle.form_problems.proofs.problems.price_matrix.Goals as goal

pub of_rows-requires : goal.of_rows-requires
of_rows-requires c =
    (price_made c.args.f.now.form c.kept_form.ensures c.args.g.now c.args.places.now c.in_ok-columns.columns c.in_ok-rows.rows c.in_ok-entries.entries.items c.push_prices.new.entries.items
    c.requires.gradient
    (wide_of c.args.f.now.form c.args.places.now c.cost.result.now c.in_ok-columns.columns c.len.result c.len-2.result c.cost.ensures c.len.ensures c.len-2.ensures c.in_ok-columns.ensures)
    (high_of c.args.f.now.form c.matrix.result.now.rows c.in_ok-rows.rows c.rows.result c.matrix.ensures.rows c.rows.ensures c.in_ok-rows.ensures)
    c.in_ok-entries.ensures c.in_ok-push_prices.ensures).0

pub returns-clause-rows : goal.returns-clause-rows
returns-clause-rows c =
    ap (λ (m : Grid ℚ). m.rows) c.of_rows.ensures
    ∙ (price_made c.args.f.now.form c.kept_form.ensures c.args.g.now c.args.places.now c.in_ok-columns.columns c.in_ok-rows.rows c.in_ok-entries.entries.items c.push_prices.new.entries.items
    c.requires.gradient
    (wide_of c.args.f.now.form c.args.places.now c.cost.result.now c.in_ok-columns.columns c.len.result c.len-2.result c.cost.ensures c.len.ensures c.len-2.ensures c.in_ok-columns.ensures)
    (high_of c.args.f.now.form c.matrix.result.now.rows c.in_ok-rows.rows c.rows.result c.matrix.ensures.rows c.rows.ensures c.in_ok-rows.ensures)
    c.in_ok-entries.ensures c.in_ok-push_prices.ensures).1
