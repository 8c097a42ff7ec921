use Rattle.std.proofs.Common.{sym, subst, refl}
use Rattle.std.proofs.lemmas.Result.{err_from_is_err_and}
use Rattle.linear_simplex_law.proofs.Steps.{last_basis}
use Rattle.linear_basis.specs.Kept.{kept, problem}
use Rattle.linear_simplex.specs.Turns.{IsReached}
use Rattle.linear_simplex.proofs.Reached.{stops_at}
use Rattle.linear_simplex.proofs.chain.goes_on_from.Goals as goal

pub basis_of-requires-clause-basis : goal.basis_of-requires-clause-basis
basis_of-requires-clause-basis c =
    let led = c.requires.led in
    (led.basis, last_basis (problem c.args.m.now c.args.r.now) led.basis led.ends.earlier led.ends.chain, sym led.columns_are)

pub returns-in_err-basis-clause-stop : goal.returns-in_err-basis-clause-stop
returns-in_err-basis-clause-stop c =
    let p = problem c.args.m.now c.args.r.now in
    let led = c.requires.led in
    let e = err_from_is_err_and c.from_residual.result c.from_residual.ensures.1 in
    rw (e.1, e.2) (stops_at p c.requires.problem c.args.steps (kept p led.basis) (record { ends = led.ends; is = refl }) c.args.bases led.within _
    (c.in_err-basis.ensures.stop led.basis (last_basis p led.basis led.ends.earlier led.ends.chain) (sym led.columns_are)))

pub goes_on-requires-clause-reached : goal.goes_on-requires-clause-reached
goes_on-requires-clause-reached c =
    let p = problem c.args.m.now c.args.r.now in
    let led = c.requires.led in
    subst (IsReached p c.args.steps) (sym (c.in_ok-basis.ensures.ok led.basis (last_basis p led.basis led.ends.earlier led.ends.chain) (sym led.columns_are))) (record { ends = led.ends; is = refl })

pub goes_on-requires-clause-steps : goal.goes_on-requires-clause-steps
goes_on-requires-clause-steps c = c.requires.led.within
