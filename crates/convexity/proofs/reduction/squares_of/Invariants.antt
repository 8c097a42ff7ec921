use Rattle.std.proofs.Common.{◌≡◌, ◌++◌, drop}
use Rattle.convexity.specs.Places.{squares_of_rows}
use Rattle.convexity.proofs.reduction.squares_of.Given as goal

-- the squares so far and those that are left are all
abbrev pub invariant-loop-j : goal.invariant-loop-j
invariant-loop-j l = l.squares ++ squares_of_rows l.j (drop l.j l.half) ≡ squares_of_rows 0 l.half
