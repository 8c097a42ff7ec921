use Rattle.std.proofs.Common.{ap, ◌∙◌, length}
use Rattle.form_problems.proofs.Assembled.{ray_exact, ray_few, ray_is}
use Rattle.form_problems.proofs.problems.ray_problem.Goals as goal

pub returns-clause-exact : goal.returns-clause-exact
returns-clause-exact c =
    ray_exact c.args.f.now.form c.in_ok-matrix.matrix c.in_ok-right.right c.rows.result c.rows-2.result c.in_ok-count.count (c.rows.ensures ∙ ap length c.matrix.ensures.rows)
    (c.rows-2.ensures ∙ ap length c.quadratic.ensures.rows) c.in_ok-count.ensures c.in_ok-matrix.ensures.columns c.in_ok-matrix.ensures.rows c.in_ok-right.ensures

pub returns-clause-problem : goal.returns-clause-problem
returns-clause-problem c =
    ray_is c.args.f.now.form _ c.kept_form.ensures
    (ray_exact c.args.f.now.form c.in_ok-matrix.matrix c.in_ok-right.right c.rows.result c.rows-2.result c.in_ok-count.count (c.rows.ensures ∙ ap length c.matrix.ensures.rows)
    (c.rows-2.ensures ∙ ap length c.quadratic.ensures.rows) c.in_ok-count.ensures c.in_ok-matrix.ensures.columns c.in_ok-matrix.ensures.rows c.in_ok-right.ensures)

pub returns-clause-few : goal.returns-clause-few
returns-clause-few c p h =
    ray_few c.args.f.now p _ h
    (ray_exact c.args.f.now.form c.in_ok-matrix.matrix c.in_ok-right.right c.rows.result c.rows-2.result c.in_ok-count.count (c.rows.ensures ∙ ap length c.matrix.ensures.rows)
    (c.rows-2.ensures ∙ ap length c.quadratic.ensures.rows) c.in_ok-count.ensures c.in_ok-matrix.ensures.columns c.in_ok-matrix.ensures.rows c.in_ok-right.ensures)
