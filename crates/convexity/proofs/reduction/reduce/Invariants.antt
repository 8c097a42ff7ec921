use Rattle.std.proofs.Common.{◌≡◌, length}
use Rattle.convexity.specs.Places.{answer_at}
use Rattle.convexity.proofs.reduction.reduce.Given as goal

-- the answer is the same, and no entry of a vector is written
abbrev pub invariant-loop-j : goal.invariant-loop-j
invariant-loop-j l = record {
  answer : answer_at l.j l.half ≡ answer_at 0 l.initial.half;
  zeros : l.z ≡ l.initial.z;
  size : length l.half ≡ length l.initial.half;
  room : length l.room ≡ length l.initial.room;
}
