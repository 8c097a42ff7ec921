-- The checking calculation of a certificate as a list of operations and tests. No test of it depends on which operations are past.
use Rattle.std.specs.Prelude.{List, [], ◌∷◌, ◌++◌, Some, None}
use Rattle.rational.specs.Rational.{ℚ}
use Rattle.rational.specs.Order.{same_fields}
use Rattle.rational.specs.Tests.{is_negative}
use Rattle.rational.specs.Vectors.{form}
use Rattle.program_law.specs.Program.{Program, bounds}
use Rattle.program_law.specs.Columns.{value}
use Rattle.program_law.specs.declared.Square.{Square}
use Rattle.certificate_law.specs.declared.Certificate.{Certificate}
use Rattle.certificate_law.specs.declared.Certificate.TheVariants.{Optimal, Infeasible, Unbounded, NotConvex}
use Rattle.cert_check_law.specs.PointList.{point_list}
use Rattle.cert_check_law.specs.ValueList.{form_of_ops, value_ops}
use Rattle.cert_check_law.specs.SquaresList.{squares_list}
use Rattle.cert_check_law.specs.TreeList.{tree_list}
use Rattle.cert_check_law.specs.RayList.{ray_list}
use Rattle.cert_check_law.specs.Entries.{Entry, operations, Test}

-- a point that is best: the point, its value against VALUE (rule 4), the squares
abbrev pub best_list : Program → List ℚ → ℚ → List Square → List Entry
best_list p x v squares = point_list p (bounds p) x ++ (operations (value_ops p x) ++ (Test (same_fields (value p x) v) 4 0 ∷ squares_list p squares))

-- that and then the tree; or the tree; or the point, the ray, the squares; or the form of the vector against 0 (rule 15)
abbrev pub check_list : Program → Certificate → List Entry
check_list p (Optimal x v squares tree) = best_list p x v squares ++ tree_list p (Some v) (bounds p) tree
check_list p (Infeasible tree) = tree_list p None (bounds p) tree
check_list p (Unbounded x d squares) = point_list p (bounds p) x ++ (ray_list p d ++ squares_list p squares)
check_list p (NotConvex v) = operations (form_of_ops p.pairs v) ++ Test (is_negative (form p.pairs v v)) 15 0 ∷ []
