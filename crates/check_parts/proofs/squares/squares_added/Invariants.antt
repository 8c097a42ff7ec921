use Rattle.std.proofs.Common.{◌≡◌, drop}
use Rattle.rational.specs.Rational.{zero_ℚ}
use Rattle.cert_check_law.specs.Squares.{squares_from}
use Rattle.check_parts.proofs.squares.squares_added.Given as goal

-- what is done so far and what is left give the whole
abbrev pub invariant-loop-m : goal.invariant-loop-m
invariant-loop-m l = squares_from l.total (drop l.m l.squares) l.j l.k ≡ squares_from zero_ℚ l.squares l.j l.k
