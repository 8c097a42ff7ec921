use Rattle.std.proofs.Common.{◌≡◌, length, map, take}
use Rattle.rational.specs.Rational.{◌/ℚ◌}
use Rattle.form_problems.proofs.price.set_quotients.Given as goal

-- the quotients so far
abbrev pub invariant-loop-i : goal.invariant-loop-i
invariant-loop-i l = record {
  done : take l.i l.y ≡ take l.i (map (λ x. x /ℚ l.q) (take (length l.initial.y) l.w));
  size : length l.y ≡ length l.initial.y;
}
