use Rattle.std.proofs.Common.{List}
use Rattle.rational.specs.Rational.{ℚ}
use Rattle.quad_solve_law.specs.Operations.{ray_back_ops}
use Rattle.quad_solve.proofs.Stops.{first_stop, nowhere_site, ray_back_stops}
use Rattle.quad_solve.proofs.solutions.direction_of.Goals as goal

pub returns-clause-stop : goal.returns-clause-stop
returns-clause-stop c =
    λ p budget h some s.
    nowhere_site p c.args.form.now.region budget _ _ c.args.ray.basis c.in-Err.stop c.stop_at.result c.stop_at.ensures c.in_ok-at-in-Err.ensures
    (ray_back_stops c.args.form.now p h budget some c.args.ray.point c.args.ray.basis s c.in-Err.stop (first_stop (List ℚ) (ray_back_ops c.args.form.now.region c.args.ray.point) c.in-Err.stop c.in-Err.ensures.operations))
