use Rattle.face_descent.proofs.Valley.{told, valley_solution, valley_convex, valley_rayless}
use Rattle.form_tests.proofs.descents.shrunk.Goals as goal

pub shrink-requires-clause-solution : goal.shrink-requires-clause-solution
shrink-requires-clause-solution c =
    valley_solution c.args.f.now.form (told c.is_valley.result _ c.if-not-is_valley.false c.is_valley.ensures) c.in_ok-x.x c.set.new.self c.whole.result c.whole-2.result c.whole.ensures c.whole-2.ensures c.in_ok-x.ensures c.set.ensures

pub shrink-requires-clause-semidefinite : goal.shrink-requires-clause-semidefinite
shrink-requires-clause-semidefinite c = valley_convex c.args.f.now.form (told c.is_valley.result _ c.if-not-is_valley.false c.is_valley.ensures)

pub shrink-requires-clause-no_ray : goal.shrink-requires-clause-no_ray
shrink-requires-clause-no_ray c = valley_rayless c.args.f.now.form (told c.is_valley.result _ c.if-not-is_valley.false c.is_valley.ensures)
