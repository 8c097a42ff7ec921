use Rattle.std.proofs.Common.{◌≡◌, ◌++◌, drop, map}
use Rattle.exact_matrix.specs.Systems.{joined}
use Rattle.equational_law.specs.Standing.{spread, spread_rows}
use Rattle.equational_law.specs.Form.{padded}
use Rattle.equational_rows.specs.Built.{all_slacks}
use Rattle.equational.proofs.quadratic.quadratic_rows.Given as goal

-- what is done and what is left give the whole
abbrev pub invariant-loop-j : goal.invariant-loop-j
invariant-loop-j l =
    let region = l.layout.region in
    let slacks = all_slacks l.layout in
    l.entries.items ++ joined (map (padded slacks) (spread_rows (drop l.j region) (drop l.j (map (spread region) l.p.pairs)))) ≡ joined (map (padded slacks) (spread_rows region (map (spread region) l.p.pairs)))
