use Rattle.std.proofs.Common.{◌≡◌, ◌≤◌, ◌+◌, ◌*◌, ◌++◌, List, drop, length}
use Rattle.program_law.specs.Program.{sides}
use Rattle.equational_law.specs.Equations.{Equation, row_slacks, row_equations}
use Rattle.equational_rows.specs.Firsts.{firsts_from}
use Rattle.equational_rows.specs.Built.{all_slacks, appended}
use Rattle.equational_rows.proofs.Gathered.{rows_left}
use Rattle.equational_rows.proofs.equations.rows_taken.Given as goal

-- what is done and what is left give the whole: the equations, the first of each row, and the slacks
abbrev pub invariant-loop-i : goal.invariant-loop-i
invariant-loop-i l =
    let ss = sides l.p in
    let region = l.layout.region in
    let slacks = all_slacks l.layout in
    (appended slacks l.rows (rows_left region l.h l.before l.i ss l.p.entries) ≡ appended slacks l.initial.rows (rows_left region l.h 0 0 ss l.p.entries))
    × ((more : List Equation) → l.firsts.items ++ firsts_from (length l.rows.right) (drop l.i ss) (row_equations region l.h l.before (drop l.i ss) (drop l.i l.p.entries) ++ more)
    ≡ firsts_from (length l.initial.rows.right) ss (row_equations region l.h 0 ss l.p.entries ++ more))
    × (l.before + row_slacks (drop l.i ss) ≡ row_slacks ss) × (l.before ≤ 2 * l.i)
