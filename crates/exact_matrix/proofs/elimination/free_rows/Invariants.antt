use Rattle.std.proofs.Common.{◌≡◌, map, take, drop}
use Rattle.std.specs.Prelude.{unsigned_abs}
use Rattle.elimination_law.specs.Calculation.{each_freed_in}
use Rattle.exact_matrix.specs.State.{state, IsSameShape}
use Rattle.exact_matrix.proofs.States.{append_lines}
use Rattle.exact_matrix.proofs.elimination.free_rows.Given as goal

abbrev pub invariant-loop-i : goal.invariant-loop-i
invariant-loop-i g l =
    let v = g.F.ExactField.value in let top = unsigned_abs g.F.ExactField.TOP in
    IsSameShape l.initial.rows l.rows
    × (append_lines (take l.i (state v l.pivots l.rows)) (each_freed_in top l.j (map v l.p) (drop l.i (state v l.pivots l.rows))) ≡ each_freed_in top l.j (map v l.p) (state v l.pivots l.initial.rows))
