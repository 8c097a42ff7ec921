use Rattle.std.proofs.lemmas.Result.{err_from_is_err_and}
use Rattle.form_problems.proofs.PriceSteps.{curvature_stops, leads, length_known, move_stops, sums_stop}
use Rattle.form_problems.proofs.price.step_along.Goals as goal

pub returns-in_err-h-clause-past : goal.returns-in_err-h-clause-past
returns-in_err-h-clause-past c =
    let p = err_from_is_err_and c.from_residual.result c.from_residual.ensures.1 in
    rw (p.1, p.2) (curvature_stops c.args.f.now.form c.args.z.now c.args.d.now _ c.in_err-h.ensures.past)

pub step_length-requires-clause-some : goal.step_length-requires-clause-some
step_length-requires-clause-some c = length_known c.args.f.now.form c.args.z.now c.args.d.now c.in_ok-h.h c.in_ok-h.ensures.value c.requires.some

pub returns-in_err-s-clause-past : goal.returns-in_err-s-clause-past
returns-in_err-s-clause-past c =
    let p = err_from_is_err_and c.from_residual-in_err-s.result c.from_residual-in_err-s.ensures.1 in
    rw (p.1, p.2) (move_stops c.args.f.now.form c.args.z.now c.args.d.now c.in_ok-h.h _ c.in_ok-h.ensures.value c.in_err-s.ensures.past)

pub returns-clause-value : goal.returns-clause-value
returns-clause-value c = leads c.args.f.now.form c.args.z.now c.args.d.now c.in_ok-h.h c.in_ok-s.s c.moved.result c.in_ok-h.ensures.value c.in_ok-s.ensures.value c.moved.ensures.value

pub returns-clause-past : goal.returns-clause-past
returns-clause-past c = sums_stop c.args.f.now.form c.args.z.now c.args.d.now c.in_ok-h.h c.in_ok-s.s c.moved.result c.in_ok-h.ensures.value c.in_ok-s.ensures.value c.moved.ensures.past
