-- How many subtrees a list of nodes still wants.
use Rattle.std.specs.Prelude.{ℕ, zero, suc, List, [], ◌∷◌, Option, Some, None}
use Rattle.certificate_law.specs.declared.Node.{Node}
use Rattle.certificate_law.specs.declared.Node.TheVariants.{Branch, Bound, Farkas, Cross}

-- A node takes the place of a subtree that is wanted, and a branch wants two. Where none is wanted, the node is one too
-- many, and nothing mends that.
abbrev pub with_node : Node → Option ℕ → Option ℕ
with_node n None = None
with_node n (Some zero) = None
with_node (Branch j k) (Some (suc w)) = Some (suc (suc w))
with_node (Bound x y) (Some (suc w)) = Some w
with_node (Farkas y) (Some (suc w)) = Some w
with_node (Cross j) (Some (suc w)) = Some w

-- what is wanted after these nodes
abbrev pub wanted_after : Option ℕ → List Node → Option ℕ
wanted_after wanted [] = wanted
wanted_after wanted (n ∷ ns) = wanted_after (with_node n wanted) ns
