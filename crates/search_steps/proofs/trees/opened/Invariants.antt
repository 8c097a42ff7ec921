use Rattle.std.proofs.Common.{◌≡◌, ◌++◌, drop}
use Rattle.search_steps.specs.Trees.{nodes_before}
use Rattle.search_steps.proofs.trees.opened.Given as goal

-- the nodes so far, and those of the turns that are left
abbrev pub invariant-loop-i : goal.invariant-loop-i
invariant-loop-i l = l.nodes ++ nodes_before (drop l.i l.turns) ≡ nodes_before l.turns
