use Rattle.std.proofs.Common.{◌≡◌, List, drop}
use Rattle.rational.specs.Rational.{ℚ}
use Rattle.elimination_law.specs.Answers.{row_of_pivot}
use Rattle.exact_matrix.specs.State.{lines}
use Rattle.exact_matrix.proofs.answers.place_of_pivot.Given as goal

abbrev pub invariant-loop-i : goal.invariant-loop-i
invariant-loop-i l = (rows : List (List ℚ)) → row_of_pivot l.j (lines l.pivots rows) ≡ row_of_pivot l.j (drop l.i (lines l.pivots rows))
