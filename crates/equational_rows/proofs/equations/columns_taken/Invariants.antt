use Rattle.std.proofs.Common.{◌≡◌, ◌≤◌, ◌+◌, ◌*◌, drop}
use Rattle.equational_law.specs.Standing.{parts}
use Rattle.equational_law.specs.Equations.{bound_slacks}
use Rattle.equational_rows.specs.Built.{all_slacks, appended}
use Rattle.equational_rows.proofs.Columns.{columns_left}
use Rattle.equational_rows.proofs.equations.columns_taken.Given as goal

-- what is done and what is left give the whole: the equations, the columns of the form, and the slacks
abbrev pub invariant-loop-j : goal.invariant-loop-j
invariant-loop-j l =
    let region = l.layout.region in
    let slacks = all_slacks l.layout in
    (appended slacks l.rows (columns_left region l.before l.j) ≡ appended slacks l.initial.rows (columns_left region l.layout.row_slacks 0))
    × (l.at + parts (drop l.j region) ≡ parts region)
    × (l.before + bound_slacks (drop l.j region) ≡ slacks)
    × (l.at ≤ 2 * l.j) × (l.before ≤ 256 + l.j)
