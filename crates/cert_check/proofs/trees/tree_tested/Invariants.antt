use Rattle.std.specs.List.{AllByRecursion}
use Rattle.std.proofs.Common.{◌≡◌, ◌+◌, ◌≤◌, [], ◌∷◌, length, drop}
use Rattle.program_law.specs.Program.{bounds}
use Rattle.certificate_law.specs.Fits.{FitsNode}
use Rattle.cert_check_law.specs.Tree.{nodes_from}
use Rattle.check_nodes.specs.Walk.{waiting_of}
use Rattle.cert_check.specs.Branches.{branches}
use Rattle.cert_check.proofs.trees.tree_tested.Given as goal

-- the walk goes on with the region at hand and those that wait, and there is room for the branches that are left
abbrev pub invariant-loop-i : goal.invariant-loop-i
invariant-loop-i l = record {
  walked : nodes_from l.p l.v (l.i + 1) (l.walk.region ∷ waiting_of l.walk.before) (drop l.i l.tree) ≡ nodes_from l.p l.v 1 (bounds l.p ∷ []) l.tree;
  nodes : AllByRecursion (FitsNode l.p) (drop l.i l.tree);
  room : length l.walk.before + branches (drop l.i l.tree) ≤ l.walk.room;
  width : length l.walk.region ≡ length l.p.columns;
}
