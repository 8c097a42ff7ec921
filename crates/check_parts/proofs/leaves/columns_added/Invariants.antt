use Rattle.std.proofs.Common.{◌≡◌, drop}
use Rattle.cert_check_law.specs.Leaf.{with_columns}
use Rattle.check_parts.specs.Gradients.{gradient_of}
use Rattle.check_parts.proofs.leaves.columns_added.Given as goal

-- what is done so far and what is left give the whole
abbrev pub invariant-loop-j : goal.invariant-loop-j
invariant-loop-j l = with_columns l.node (gradient_of l.p l.w) l.p.entries l.y l.j l.sum (drop l.j l.region) ≡ with_columns l.node (gradient_of l.p l.w) l.p.entries l.y 0 l.fn.total l.region
