use Rattle.std.proofs.Common.{ap, ◌∙◌, length}
use Rattle.form_problems.proofs.Assembled.{gradient_size, places_inside, price_exact, price_few, price_is}
use Rattle.form_problems.proofs.problems.price_problem.Goals as goal

pub price_matrix-requires-clause-gradient : goal.price_matrix-requires-clause-gradient
price_matrix-requires-clause-gradient c = gradient_size c.args.f.now.form c.args.z.now c.args.g.now c.kept_form.ensures c.requires.gradient

pub price_matrix-requires-clause-places : goal.price_matrix-requires-clause-places
price_matrix-requires-clause-places c = places_inside c.args.f.now.form c.args.z.now c.in_ok-places.places c.requires.size c.in_ok-places.ensures

pub returns-clause-problem : goal.returns-clause-problem
returns-clause-problem c =
    price_is c.args.f.now.form c.args.z.now _ c.kept_form.ensures
    (price_exact c.args.f.now.form c.args.z.now c.args.g.now c.in_ok-places.places c.in_ok-matrix.matrix c.in_ok-right.right c.rows.result c.requires.gradient c.in_ok-places.ensures
    (c.rows.ensures ∙ ap length c.matrix.ensures.rows) c.in_ok-matrix.ensures.columns c.in_ok-matrix.ensures.rows c.in_ok-right.ensures)

pub returns-clause-few : goal.returns-clause-few
returns-clause-few c p h =
    price_few c.args.f.now p _ h c.args.z.now c.requires.size
    (price_exact c.args.f.now.form c.args.z.now c.args.g.now c.in_ok-places.places c.in_ok-matrix.matrix c.in_ok-right.right c.rows.result c.requires.gradient c.in_ok-places.ensures
    (c.rows.ensures ∙ ap length c.matrix.ensures.rows) c.in_ok-matrix.ensures.columns c.in_ok-matrix.ensures.rows c.in_ok-right.ensures)
