-- One turn of the walk over a tree.
use Rattle.std.specs.Prelude.{◌≡◌, ◌+◌, List, [], ◌∷◌}
use Rattle.std.proofs.Common.{arith}
use Rattle.certificate_law.specs.declared.Node.{Node}
use Rattle.certificate_law.specs.declared.Node.TheVariants.{Branch, Bound, Farkas, Cross}
use Rattle.cert_check.specs.Branches.{branches}

pub more_branches : (n : Node) (ns : List Node) → branches (n ∷ ns) ≡ branches (n ∷ []) + branches ns
more_branches (Branch j k) ns = omega arith
more_branches (Bound w y) ns = omega arith
more_branches (Farkas y) ns = omega arith
more_branches (Cross j) ns = omega arith
