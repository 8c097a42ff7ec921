use Rattle.std.proofs.Common.{subst, refl, arith}
use Rattle.std.proofs.lemmas.Result.{err_from_is_err_and}
use Rattle.quad_solve_law.specs.Problems.{price_problem}
use Rattle.quad_solve.specs.Walking.{IsWalkedTo}
use Rattle.quad_solve.proofs.Stops.{reached, price_stops, spent_stops}
use Rattle.quad_solve.proofs.Turns.{point_answer, farkas_answer}
use Rattle.quad_solve.proofs.Walking.{solved_of, within}
use Rattle.quad_solve.proofs.walk.turned.Goals as goal

pub price_chain-requires-clause-size : goal.price_chain-requires-clause-size
price_chain-requires-clause-size c = c.requires.solution.width

pub returns-in-Ok-Point-clause-stop : goal.returns-in-Ok-Point-clause-stop
returns-in-Ok-Point-clause-stop c =
    λ p start h solved no_ray on.
    let point = point_answer (price_problem c.args.form.now.form c.args.z) c.args.bases c.in-Ok-Point.field-0 c.in-Ok-Point.field-0-0 c.in-Ok-Point.field-0-1 c.in-Ok-Point.ensures.answer c.in-Ok-Point.field-0-is in
    spent_stops c.args.form.now p h c.args.bases start c.args.z c.in-Ok-Point.field-0-0 c.requires.able solved no_ray
    (subst (λ k. IsWalkedTo c.args.form.now.form c.args.bases k start c.args.z) c.if-steps-bases.true on) c.requires.stationary
    (solved_of (price_problem c.args.form.now.form c.args.z) c.args.bases c.in-Ok-Point.field-0-0 c.in-Ok-Point.field-0-1 point)

pub stepped-requires-clause-solved : goal.stepped-requires-clause-solved
stepped-requires-clause-solved c = (
  c.args.bases,
  point_answer (price_problem c.args.form.now.form c.args.z) c.args.bases c.in-Ok-Point.field-0 c.in-Ok-Point.field-0-0 c.in-Ok-Point.field-0-1 c.in-Ok-Point.ensures.answer c.in-Ok-Point.field-0-is,
)

pub returns-in_err-stepped-in-Ok-Point-2-clause-stop : goal.returns-in_err-stepped-in-Ok-Point-2-clause-stop
returns-in_err-stepped-in-Ok-Point-2-clause-stop c =
    λ p start h solved no_ray on.
    let q = err_from_is_err_and c.from_residual.result c.from_residual.ensures.1 in
    let point = point_answer (price_problem c.args.form.now.form c.args.z) c.args.bases c.in-Ok-Point.field-0 c.in-Ok-Point.field-0-0 c.in-Ok-Point.field-0-1 c.in-Ok-Point.ensures.answer c.in-Ok-Point.field-0-is in
    rw (q.1, q.2) (c.in_err-stepped-in-Ok-Point-2.ensures.stop p c.args.bases h
    (reached c.args.form.now p h c.args.bases c.requires.able start c.args.z c.args.steps solved on) point)

pub returns-in_ok-stepped-in-Ok-Point-2-clause-turn : goal.returns-in_ok-stepped-in-Ok-Point-2-clause-turn
returns-in_ok-stepped-in-Ok-Point-2-clause-turn c = record {
  few = omega (arith, c.requires.few, c.if-steps-bases.false);
  solution = c.in-Ok-Point-2.x;
  basic = c.in-Ok-Point-2.basis;
  solved = point_answer (price_problem c.args.form.now.form c.args.z) c.args.bases c.in-Ok-Point.field-0 c.in-Ok-Point-2.x c.in-Ok-Point-2.basis c.in-Ok-Point.ensures.answer c.in-Ok-Point-2.field-0-is;
  priced = c.in_ok-stepped-in-Ok-Point-2.ensures.priced;
}

pub returns-in-Ok-Farkas-clause-turn : goal.returns-in-Ok-Farkas-clause-turn
returns-in-Ok-Farkas-clause-turn c = (
  refl,
  farkas_answer (price_problem c.args.form.now.form c.args.z) c.args.bases c.in-Ok-Farkas.field-0 c.in-Ok-Farkas.farkas c.in-Ok-Farkas.basis c.in-Ok-Farkas.ensures.answer c.in-Ok-Farkas.field-0-is,
)

pub returns-in-Err-clause-stop : goal.returns-in-Err-clause-stop
returns-in-Err-clause-stop c =
    λ p start h solved no_ray on.
    rw c.price_stop.ensures
    (price_stops c.args.form.now p h c.args.bases c.args.z (reached c.args.form.now p h c.args.bases c.requires.able start c.args.z c.args.steps solved on) c.requires.stationary
    (within c.args.form.now.form c.args.bases start c.args.steps c.args.z solved no_ray c.requires.few on) c.in-Err.stop c.in-Err.ensures.stop)
