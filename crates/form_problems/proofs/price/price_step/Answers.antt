use Rattle.std.proofs.Common.{sym, ◌∙◌}
use Rattle.std.proofs.lemmas.Result.{err_from_is_err_and}
use Rattle.form_problems.proofs.PriceSteps.{along_stops, direction_stops, parts_count, some_length, step_is_priced, step_is_solution, way_size}
use Rattle.form_problems.proofs.price.price_step.Goals as goal

pub direction-requires : goal.direction-requires
direction-requires c = parts_count c.args.f.now.form c.args.z.now c.args.x.now c.requires.solution.width c.requires.solves

pub returns-in_err-d-clause-stop : goal.returns-in_err-d-clause-stop
returns-in_err-d-clause-stop c =
    let p = err_from_is_err_and c.from_residual.result c.from_residual.ensures.1 in
    rw (p.1, p.2) (direction_stops c.args.f.now.form c.args.z.now c.args.x.now _ c.requires.solution.width c.in_err-d.ensures.past)

pub step_along-requires-clause-size : goal.step_along-requires-clause-size
step_along-requires-clause-size c =
    c.requires.solution.width
    ∙ sym (way_size c.args.f.now.form c.args.z.now c.args.x.now c.in_ok-d.d c.kept_form.ensures c.requires.solution c.in_ok-d.ensures.value c.requires.solves)

pub step_along-requires-clause-direction : goal.step_along-requires-clause-direction
step_along-requires-clause-direction c = way_size c.args.f.now.form c.args.z.now c.args.x.now c.in_ok-d.d c.kept_form.ensures c.requires.solution c.in_ok-d.ensures.value c.requires.solves

pub step_along-requires-clause-some : goal.step_along-requires-clause-some
step_along-requires-clause-some c =
    some_length c.args.f.now.form c.args.z.now c.args.x.now c.in_ok-d.d c.kept_form.ensures c.requires.solution c.in_ok-d.ensures.value c.requires.semidefinite c.requires.solves c.requires.no_ray

pub returns-clause-priced : goal.returns-clause-priced
returns-clause-priced c still solved =
    step_is_priced c.args.f.now.form c.args.z.now c.args.x.now c.in_ok-d.d c.kept_form.ensures c.requires.solution c.in_ok-d.ensures.value c.requires.semidefinite c.requires.solves
    c.step_along.result still solved c.step_along.ensures.value

pub returns-clause-solution : goal.returns-clause-solution
returns-clause-solution c =
    step_is_solution c.args.f.now.form c.args.z.now c.args.x.now c.in_ok-d.d c.kept_form.ensures c.requires.solution c.in_ok-d.ensures.value c.requires.semidefinite c.requires.solves
    c.step_along.result c.step_along.ensures.value

pub returns-clause-stop : goal.returns-clause-stop
returns-clause-stop c =
    along_stops c.args.f.now.form c.args.z.now c.args.x.now c.in_ok-d.d c.kept_form.ensures c.requires.solution c.in_ok-d.ensures.value c.step_along.result c.step_along.ensures.past
