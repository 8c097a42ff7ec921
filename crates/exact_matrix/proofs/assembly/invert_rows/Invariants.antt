use Rattle.std.proofs.Common.{◌≡◌, map, take}
use Rattle.elimination_law.specs.Answers.{invert_rows}
use Rattle.exact_matrix.specs.State.{values}
use Rattle.exact_matrix.specs.Systems.{joined}
use Rattle.exact_matrix.proofs.assembly.invert_rows.Given as goal

abbrev pub invariant-loop-i : goal.invariant-loop-i
invariant-loop-i g l = let v = g.F.ExactField.value in map v l.entries.items ≡ joined (take l.i (invert_rows (values v l.m)))
