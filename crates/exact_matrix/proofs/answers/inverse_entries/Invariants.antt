use Rattle.std.proofs.Common.{◌≡◌, ◌-◌, [], map}
use Rattle.elimination_law.specs.Answers.{inverse_from}
use Rattle.exact_matrix.specs.State.{state}
use Rattle.exact_matrix.proofs.Assembled.{with_rest}
use Rattle.exact_matrix.proofs.answers.inverse_entries.Given as goal

abbrev pub invariant-loop-j : goal.invariant-loop-j
invariant-loop-j g l =
    let v = g.F.ExactField.value in let ls = state v l.pivots l.rows in
    with_rest (map v l.entries.items) (inverse_from (l.n - l.j) l.j l.n ls) ≡ with_rest [] (inverse_from l.n 0 l.n ls)
