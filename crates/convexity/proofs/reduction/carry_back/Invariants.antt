use Rattle.std.proofs.Common.{◌≡◌, ◌≤◌, length}
use Rattle.convexity.specs.Places.{answer_found}
use Rattle.convexity.proofs.reduction.carry_back.Given as goal

-- the answer is the same
abbrev pub invariant-loop-i : goal.invariant-loop-i
invariant-loop-i l = record {
  answer : answer_found l.i l.half l.z ≡ answer_found l.j l.half l.fn.z;
  place : l.i ≤ l.j;
  length : length l.z ≡ length l.half;
}

abbrev pub decreases-loop-i : goal.decreases-loop-i
decreases-loop-i l = l.i
