use Rattle.std.proofs.Common.{◌≡◌, ◌++◌, drop}
use Rattle.qp_answers.specs.Withheld.{basic_lines}
use Rattle.qp_answers.proofs.withheld.push_basic_lines.Given as goal

-- what is done and the lines of the rest are the whole
abbrev pub invariant-loop-k : goal.invariant-loop-k
invariant-loop-k l = l.text.items ++ basic_lines (drop l.k l.basis) ≡ l.initial.text.items ++ basic_lines l.basis
