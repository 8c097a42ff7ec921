use Rattle.std.proofs.Common.{◌≡◌, ◌-◌, length}
use Rattle.cert_check_law.specs.Squares.{pairs_in_row}
use Rattle.check_parts.proofs.squares.row_tested.Given as goal

-- what is done so far and what is left give the whole
abbrev pub invariant-loop-k : goal.invariant-loop-k
invariant-loop-k l = pairs_in_row l.p.pairs l.squares l.j l.k (length l.p.columns - l.k) ≡ pairs_in_row l.p.pairs l.squares l.j l.j (length l.p.columns - l.j)
