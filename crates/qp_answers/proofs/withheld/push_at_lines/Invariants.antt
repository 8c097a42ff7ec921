use Rattle.std.proofs.Common.{◌≡◌, ◌+◌, ◌++◌, drop}
use Rattle.qp_answers.specs.Withheld.{at_lines}
use Rattle.qp_answers.proofs.withheld.push_at_lines.Given as goal

-- what is done and the lines of the rest are the whole
abbrev pub invariant-loop-k : goal.invariant-loop-k
invariant-loop-k l = l.text.items ++ at_lines (l.k + 1) (drop l.k l.at) ≡ l.initial.text.items ++ at_lines 1 l.at
