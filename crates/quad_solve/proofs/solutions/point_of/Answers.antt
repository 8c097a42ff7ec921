use Rattle.std.proofs.Common.{List}
use Rattle.rational.specs.Rational.{ℚ}
use Rattle.quad_solve_law.specs.Operations.{back_ops}
use Rattle.quad_solve.proofs.Stops.{first_stop, nowhere_site, back_stops}
use Rattle.quad_solve.proofs.solutions.point_of.Goals as goal

pub returns-clause-stop : goal.returns-clause-stop
returns-clause-stop c =
    λ p budget h s.
    nowhere_site p c.args.form.now.region budget _ _ c.args.start.basis c.in-Err.stop c.stop_at.result c.stop_at.ensures c.in_ok-at-in-Err.ensures
    (back_stops c.args.form.now p h budget c.args.start.point c.args.start.basis s c.in-Err.stop (first_stop (List ℚ) (back_ops c.args.form.now.region c.args.start.point) c.in-Err.stop c.in-Err.ensures.operations))
