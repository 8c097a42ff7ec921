-- The checking calculation of a certificate, and its answer.
use Rattle.std.specs.Prelude.{Some, None, Result, Ok, Err}
use Rattle.program_law.specs.Program.{Program, bounds}
use Rattle.certificate_law.specs.declared.Certificate.{Certificate}
use Rattle.certificate_law.specs.declared.Certificate.TheVariants.{Optimal, Infeasible, Unbounded, NotConvex}
use Rattle.cert_check_law.specs.declared.Event.{Event}
use Rattle.cert_check_law.specs.declared.Event.TheVariants.{Past, Failed}
use Rattle.cert_check_law.specs.declared.Checked.{Checked}
use Rattle.cert_check_law.specs.declared.Checked.TheVariants.{Accepted, Rejected, Past as PastChecked}
use Rattle.cert_check_law.specs.Chain.{◌>>=◌}
use Rattle.cert_check_law.specs.Heads.{best_test, unbounded_test, vector_test}
use Rattle.cert_check_law.specs.Tree.{tree_test}

-- the point with its value and the squares, and then the tree; or the tree; or the point, the ray and the squares; or the vector
abbrev pub checked : Program → Certificate → Result (Unit {0}) Event
checked p (Optimal x v squares tree) = best_test p x v squares >>= λ _. tree_test p (Some v) (bounds p) tree
checked p (Infeasible tree) = tree_test p None (bounds p) tree
checked p (Unbounded x d squares) = unbounded_test p x d squares
checked p (NotConvex v) = vector_test p v

-- the answer: accepted, or the first event
abbrev pub answer : Result (Unit {0}) Event → Checked
answer (Ok x) = Accepted
answer (Err (Past r)) = PastChecked r
answer (Err (Failed rule place)) = Rejected rule place
