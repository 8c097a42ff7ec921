use Rattle.std.proofs.Common.{◌≡◌, length, take, map}
use Rattle.equational.specs.Back.{multiplier_at}
use Rattle.equational.proofs.back.rows_back.Given as goal

-- the multipliers so far
abbrev pub invariant-loop-i : goal.invariant-loop-i
invariant-loop-i l = record {
  done : take l.i l.multipliers ≡ map (multiplier_at l.y) (take l.i l.firsts);
  size : length l.multipliers ≡ length l.firsts;
}
