use Rattle.std.proofs.Common.{◌≡◌, ◌++◌, map, take}
use Rattle.exact_matrix.specs.Systems.{joined}
use Rattle.quad_solve_law.specs.Problems.{doubled}
use Rattle.form_problems.proofs.problems.push_all_doubled.Given as goal

abbrev pub invariant-loop-i : goal.invariant-loop-i
invariant-loop-i l = l.entries.items ≡ l.initial.entries.items ++ joined (take l.i (map (doubled l.places) l.m.rows))
