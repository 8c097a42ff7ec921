use Rattle.std.proofs.Common.{◌≡◌, ◌-◌, length}
use Rattle.std.specs.Prelude.{unsigned_abs}
use Rattle.elimination_law.specs.Calculation.{eliminated_from_in}
use Rattle.exact_matrix.specs.State.{state, IsSameShape}
use Rattle.exact_matrix.proofs.elimination.eliminate.Given as goal

abbrev pub invariant-loop-j : goal.invariant-loop-j
invariant-loop-j g l =
    let v = g.F.ExactField.value in let top = unsigned_abs g.F.ExactField.TOP in
    IsSameShape l.initial.rows l.rows × (length l.pivots ≡ length l.initial.pivots)
    × (eliminated_from_in top (l.n - l.j) l.j (state v l.pivots l.rows) ≡ eliminated_from_in top l.n 0 (state v l.initial.pivots l.initial.rows))
