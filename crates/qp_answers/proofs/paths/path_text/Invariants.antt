use Rattle.std.proofs.Common.{◌≡◌, ◌++◌, drop}
use Rattle.qp_answers.specs.Withheld.{path_lines}
use Rattle.qp_answers.proofs.paths.path_text.Given as goal

-- what is done and the lines of the rest are the whole
abbrev pub invariant-loop-k : goal.invariant-loop-k
invariant-loop-k l = l.text.items ++ path_lines l.program (drop l.k l.path) ≡ path_lines l.program l.path
