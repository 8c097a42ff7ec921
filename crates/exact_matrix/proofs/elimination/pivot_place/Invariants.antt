use Rattle.exact_matrix.specs.State.{state}
use Rattle.exact_matrix.proofs.States.{IsNoneBefore}
use Rattle.exact_matrix.proofs.elimination.pivot_place.Given as goal

abbrev pub invariant-loop-i : goal.invariant-loop-i
invariant-loop-i g l = IsNoneBefore l.j (state g.F.ExactField.value l.pivots l.rows) l.i
