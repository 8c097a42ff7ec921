use Rattle.std.proofs.Common.{◌≡◌, ◌++◌, map, take}
use Rattle.rational.specs.Vectors.{unit_vector}
use Rattle.exact_matrix.proofs.assembly.push_unit.Given as goal

abbrev pub invariant-loop-k : goal.invariant-loop-k
invariant-loop-k g l =
    let v = g.F.ExactField.value in
    map v l.entries.items ≡ map v l.initial.entries.items ++ take l.k (unit_vector l.size l.i)
