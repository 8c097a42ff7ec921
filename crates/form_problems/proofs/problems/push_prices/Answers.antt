use Rattle.form_problems.proofs.Assembled.{price_entries}
use Rattle.form_problems.proofs.problems.push_prices.Goals as goal

pub returns : goal.returns
returns c =
    price_entries c.push_picked.result c.args.f.now.form c.args.g.now c.args.places.now c.matrix.result.now.rows
    c.args.entries.now.items c.push_all_doubled.new.entries.items c.push_negated.new.entries.items c.push_picked.new.entries.items
    c.matrix.ensures.rows c.in_ok-push_all_doubled.ensures c.in_ok-push_negated.ensures c.push_picked.ensures
