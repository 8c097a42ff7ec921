-- The entries of a tree's check, node by node in preorder: each node's own, on the region that waits first.
use Rattle.std.specs.Prelude.{ℕ, suc, List, [], ◌∷◌, ◌++◌, Option}
use Rattle.rational.specs.Rational.{ℚ, whole, one_ℚ}
use Rattle.frac_core.specs.declared.fractions.Op.TheVariants.{Add}
use Rattle.frac_core.specs.Operations.{operation}
use Rattle.program_law.specs.Region.{Region, left_of, right_of, bounds_at, is_above}
use Rattle.program_law.specs.Program.{Program, marks, is_marked}
use Rattle.certificate_law.specs.declared.Node.{Node}
use Rattle.certificate_law.specs.declared.Node.TheVariants.{Branch, Bound, Farkas, Cross}
use Rattle.cert_check_law.specs.LeafList.{farkas_list, bound_list}
use Rattle.cert_check_law.specs.Entries.{Entry, Operation, Test}

-- a node on its region: a branch's mark (rule 6) and k + 1; a leaf's sum and number; crossing bounds (rule 10)
abbrev pub node_list : Program → Option ℚ → ℕ → Region → Node → List Entry
node_list p v node region (Branch j k) = Test (is_marked (marks p) j) 6 node ∷ Operation (operation Add (whole k) one_ℚ) ∷ []
node_list p v node region (Bound w y) = bound_list p v node region w y
node_list p v node region (Farkas y) = farkas_list p node region y
node_list p v node region (Cross j) = Test (is_above (bounds_at region j).low (bounds_at region j).high) 10 node ∷ []

-- the regions that wait behind a node: its two halves behind a branch
abbrev pub waiting_after : Node → Region → List Region → List Region
waiting_after (Branch j k) region waiting = left_of region j k ∷ right_of region j k ∷ waiting
waiting_after (Bound w y) region waiting = waiting
waiting_after (Farkas y) region waiting = waiting
waiting_after (Cross j) region waiting = waiting

-- the nodes from this one on
abbrev pub nodes_list : Program → Option ℚ → ℕ → List Region → List Node → List Entry
nodes_list p v node [] ns = []
nodes_list p v node (region ∷ waiting) [] = []
nodes_list p v node (region ∷ waiting) (n ∷ ns) = node_list p v node region n ++ nodes_list p v (suc node) (waiting_after n region waiting) ns

-- a tree on a region
abbrev pub tree_list : Program → Option ℚ → Region → List Node → List Entry
tree_list p v region nodes = nodes_list p v 1 (region ∷ []) nodes
