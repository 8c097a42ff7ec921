use Rattle.std.proofs.Common.{ap, length, ◌∙◌}
use Rattle.std.proofs.lemmas.Result.{err_from_is_err_and}
use Rattle.form_problems.proofs.PriceSteps.{last_there, last_not_zero, multipliers_are, multipliers_size, multipliers_stop, room_there}
use Rattle.form_problems.proofs.price.multipliers.Goals as goal

pub at-requires : goal.at-requires
at-requires c = last_there c.args.f.now.form c.args.w.now c.kept_form.ensures c.requires c.rows-count.result (c.rows-count.ensures ∙ ap length c.matrix.ensures.rows)

pub set_quotients-requires-clause-size : goal.set_quotients-requires-clause-size
set_quotients-requires-clause-size c =
    room_there c.args.f.now.form c.args.w.now c.kept_form.ensures c.requires c.rows-count.result (c.rows-count.ensures ∙ ap length c.matrix.ensures.rows) c.in_ok-y.y _ c.in_ok-y.ensures

pub set_quotients-requires-clause-divisor : goal.set_quotients-requires-clause-divisor
set_quotients-requires-clause-divisor c =
    last_not_zero c.args.f.now.form c.args.w.now c.kept_form.ensures c.requires c.rows-count.result (c.rows-count.ensures ∙ ap length c.matrix.ensures.rows) c.at.result c.at.ensures

pub returns-in_err-set_quotients-clause-stop : goal.returns-in_err-set_quotients-clause-stop
returns-in_err-set_quotients-clause-stop c =
    let p = err_from_is_err_and c.from_residual-in_err-set_quotients.result c.from_residual-in_err-set_quotients.ensures.1 in
    rw (p.1, p.2) (multipliers_stop c.args.f.now.form c.args.w.now c.kept_form.ensures c.requires c.rows-count.result (c.rows-count.ensures ∙ ap length c.matrix.ensures.rows) c.at.result c.at.ensures
    c.in_ok-y.y _ _ c.in_ok-y.ensures c.in_err-set_quotients.ensures.past)

pub returns-clause-value : goal.returns-clause-value
returns-clause-value c =
    c.in_ok-set_quotients.ensures.value
    ∙ multipliers_are c.args.f.now.form c.args.w.now c.kept_form.ensures c.requires c.rows-count.result (c.rows-count.ensures ∙ ap length c.matrix.ensures.rows) c.at.result c.at.ensures c.in_ok-y.y _ c.in_ok-y.ensures

pub returns-clause-size : goal.returns-clause-size
returns-clause-size c =
    multipliers_size c.args.f.now.form c.args.w.now c.kept_form.ensures c.requires c.rows-count.result (c.rows-count.ensures ∙ ap length c.matrix.ensures.rows) c.set_quotients.new.y
    (c.in_ok-set_quotients.ensures.value
    ∙ multipliers_are c.args.f.now.form c.args.w.now c.kept_form.ensures c.requires c.rows-count.result (c.rows-count.ensures ∙ ap length c.matrix.ensures.rows) c.at.result c.at.ensures c.in_ok-y.y _ c.in_ok-y.ensures)
