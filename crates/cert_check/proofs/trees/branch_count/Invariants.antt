use Rattle.std.proofs.Common.{◌≡◌, ◌+◌, ◌≤◌, drop}
use Rattle.cert_check.specs.Branches.{branches}
use Rattle.cert_check.proofs.trees.branch_count.Given as goal

-- what is counted so far and what is left give the whole
abbrev pub invariant-loop-k : goal.invariant-loop-k
invariant-loop-k l = (l.count + branches (drop l.k l.tree) ≡ branches l.tree) × (l.count ≤ l.k)
