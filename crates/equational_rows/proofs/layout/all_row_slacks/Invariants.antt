use Rattle.std.proofs.Common.{◌≡◌, ◌≤◌, ◌+◌, ◌*◌, drop}
use Rattle.program_law.specs.Program.{sides}
use Rattle.equational_law.specs.Equations.{row_slacks}
use Rattle.equational_rows.proofs.layout.all_row_slacks.Given as goal

-- the count so far and what is left give the whole
abbrev pub invariant-loop-i : goal.invariant-loop-i
invariant-loop-i l = (l.count + row_slacks (drop l.i (sides l.p)) ≡ row_slacks (sides l.p)) × (l.count ≤ 2 * l.i)
