use Rattle.std.proofs.Common.{◌≡◌, ◌-◌, length}
use Rattle.cert_check_law.specs.Squares.{pairs_from}
use Rattle.check_parts.proofs.squares.squares_tested.Given as goal

-- what is done so far and what is left give the whole
abbrev pub invariant-loop-j : goal.invariant-loop-j
invariant-loop-j l = pairs_from l.p.pairs l.squares l.j (length l.p.columns - l.j) ≡ pairs_from l.p.pairs l.squares 0 (length l.p.columns)
