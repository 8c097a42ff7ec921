use Rattle.std.proofs.Common.{drop}
use Rattle.std.specs.List.{AllByRecursion}
use Rattle.cert_grammar.specs.Writable.{NodeFits}
use Rattle.qp_answers.proofs.showing.show_tree.Given as goal

-- the rest of them suffices
abbrev pub invariant-loop-k : goal.invariant-loop-k
invariant-loop-k l = AllByRecursion NodeFits (drop l.k l.tree) → AllByRecursion NodeFits l.tree
