use Rattle.std.proofs.Common.{◌≡◌, ◌++◌, take}
use Rattle.search_steps.specs.Trees.{nodes_behind}
use Rattle.search_steps.proofs.trees.closed.Given as goal

-- the nodes so far, and those of the turns that are left, which are the first ones
abbrev pub invariant-loop-i : goal.invariant-loop-i
invariant-loop-i l = l.nodes ++ nodes_behind (take l.i l.turns) ≡ l.fn.nodes ++ nodes_behind l.turns
