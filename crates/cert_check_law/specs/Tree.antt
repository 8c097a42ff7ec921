-- The tests of a tree's nodes in preorder, each on the region that waits first: a branch on a marked column (rule 6), a
-- column with crossing bounds (rule 10), and the leaves. Nodes count from 1.
use Rattle.std.specs.Prelude.{ℕ, suc, ℤ, List, [], ◌∷◌, Option, Bool, Result, Ok}
use Rattle.rational.specs.Rational.{ℚ, whole, one_ℚ}
use Rattle.frac_core.specs.declared.fractions.Op.TheVariants.{Add}
use Rattle.program_law.specs.Region.{Region, bounds_at, is_above, cut_high, cut_low}
use Rattle.program_law.specs.Program.{Program, marks, is_marked}
use Rattle.certificate_law.specs.declared.Node.{Node}
use Rattle.certificate_law.specs.declared.Node.TheVariants.{Branch, Bound, Farkas, Cross}
use Rattle.cert_check_law.specs.declared.Event.{Event}
use Rattle.cert_check_law.specs.Chain.{◌>>=◌, op, test}
use Rattle.cert_check_law.specs.Leaf.{farkas_test, bound_test}

-- a branch: the regions that wait after it
unfoldable pub branch_step : List Bool → ℕ → Region → ℕ → ℤ → List Region → Result (List Region) Event
branch_step ms node region j k waiting =
    test (is_marked ms j) 6 node >>= λ _. op Add (whole k) one_ℚ >>= λ above. Ok (cut_high region j (whole k) ∷ cut_low region j above ∷ waiting)

unfoldable pub cross_test : ℕ → Region → ℕ → Result (Unit {0}) Event
cross_test node region j = test (is_above (bounds_at region j).low (bounds_at region j).high) 10 node

-- a node on its region: the regions that wait after it
abbrev pub node_step : Program → Option ℚ → ℕ → Region → Node → List Region → Result (List Region) Event
node_step p v node region (Branch j k) waiting = branch_step (marks p) node region j k waiting
node_step p v node region (Bound w y) waiting = bound_test p v node region w y >>= λ _. Ok waiting
node_step p v node region (Farkas y) waiting = farkas_test p node region y >>= λ _. Ok waiting
node_step p v node region (Cross j) waiting = cross_test node region j >>= λ _. Ok waiting

-- the nodes from this one on
abbrev pub nodes_from : Program → Option ℚ → ℕ → List Region → List Node → Result (Unit {0}) Event
nodes_from p v node [] ns = Ok tt
nodes_from p v node (region ∷ waiting) [] = Ok tt
nodes_from p v node (region ∷ waiting) (n ∷ ns) = node_step p v node region n waiting >>= λ after. nodes_from p v (suc node) after ns

-- a tree on a region
abbrev pub tree_test : Program → Option ℚ → Region → List Node → Result (Unit {0}) Event
tree_test p v region nodes = nodes_from p v 1 (region ∷ []) nodes
