use Rattle.std.proofs.Common.{◌≡◌, map, take, drop}
use Rattle.std.specs.Prelude.{unsigned_abs}
use Rattle.frac_core.proofs.RowLemmas.{append_row}
use Rattle.elimination_law.specs.Calculation.{divided_in}
use Rattle.exact_matrix.proofs.rows.divide.Given as goal

abbrev pub invariant-loop-i : goal.invariant-loop-i
invariant-loop-i g l =
    let v = g.F.ExactField.value in let top = unsigned_abs g.F.ExactField.TOP in
    append_row (take l.i (map v l.row)) (divided_in top (v l.q) (drop l.i (map v l.row))) ≡ divided_in top (v l.q) (map v l.initial.row)
