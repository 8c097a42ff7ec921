use Rattle.form_problems.proofs.Assembled.{ray_entries}
use Rattle.form_problems.proofs.problems.push_rays.Goals as goal

pub returns : goal.returns
returns c =
    ray_entries c.push_negated.result c.args.f.now.form c.matrix.result.now.rows c.quadratic.result.now.rows c.cost.result.now
    c.args.entries.now.items c.push_rows.new.entries.items c.push_rows-2.new.entries.items c.push_negated.new.entries.items
    c.matrix.ensures.rows c.quadratic.ensures.rows c.cost.ensures c.in_ok-push_rows.ensures c.in_ok-push_rows-2.ensures c.push_negated.ensures
