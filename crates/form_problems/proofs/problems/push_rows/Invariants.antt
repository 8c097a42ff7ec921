use Rattle.std.proofs.Common.{◌≡◌, ◌++◌, take}
use Rattle.exact_matrix.specs.Systems.{joined}
use Rattle.form_problems.proofs.problems.push_rows.Given as goal

abbrev pub invariant-loop-i : goal.invariant-loop-i
invariant-loop-i l = l.entries.items ≡ l.initial.entries.items ++ joined (take l.i l.m.rows)
