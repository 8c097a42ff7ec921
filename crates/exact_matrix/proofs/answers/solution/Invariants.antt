use Rattle.std.proofs.Common.{◌≡◌, ◌-◌, ◌++◌, map}
use Rattle.elimination_law.specs.Answers.{solution_from}
use Rattle.exact_matrix.specs.State.{state}
use Rattle.exact_matrix.proofs.answers.solution.Given as goal

abbrev pub invariant-loop-j : goal.invariant-loop-j
invariant-loop-j g l =
    let v = g.F.ExactField.value in let ls = state v l.pivots l.rows in
    map v l.z ++ solution_from (l.n - l.j) l.j l.n ls ≡ solution_from l.n 0 l.n ls
