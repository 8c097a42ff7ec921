use Rattle.std.proofs.Common.{ap, ◌∙◌, length}
use Rattle.rational.specs.Rational.{ℚ}
use Rattle.exact_matrix.specs.Grid.{Grid}
use Rattle.form_problems.proofs.Assembled.{ray_made}
use Rattle.form_problems.proofs.problems.ray_matrix.Goals as goal

pub of_rows-requires : goal.of_rows-requires
of_rows-requires c =
    (ray_made c.args.f.now.form c.kept_form.ensures c.len-columns.result c.args.rows c.in_ok-entries.entries.items c.push_rays.new.entries.items
    (c.len-columns.ensures ∙ ap length c.cost.ensures) c.requires c.in_ok-entries.ensures c.in_ok-push_rays.ensures).0

pub returns-clause-rows : goal.returns-clause-rows
returns-clause-rows c =
    ap (λ (m : Grid ℚ). m.rows) c.of_rows.ensures
    ∙ (ray_made c.args.f.now.form c.kept_form.ensures c.len-columns.result c.args.rows c.in_ok-entries.entries.items c.push_rays.new.entries.items
    (c.len-columns.ensures ∙ ap length c.cost.ensures) c.requires c.in_ok-entries.ensures c.in_ok-push_rays.ensures).1
