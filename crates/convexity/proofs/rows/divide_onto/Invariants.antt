use Rattle.std.proofs.Common.{◌≡◌, [], ◌∷◌, take, drop, length}
use Rattle.rational.specs.Sums.{entry}
use Rattle.convexity.specs.Onto.{divided_onto}
use Rattle.convexity.proofs.rows.divide_onto.Given as goal

-- what is written so far and what is left give the whole
abbrev pub invariant-loop-k : goal.invariant-loop-k
invariant-loop-k l =
    (divided_onto l.d (take l.k l.v) (drop l.k l.row) ≡ divided_onto (entry l.row 0) (entry l.row 0 ∷ []) (drop 1 l.row)) × (l.d ≡ entry l.row 0) × (length l.v ≡ length l.row)
