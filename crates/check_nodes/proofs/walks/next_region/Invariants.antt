use Rattle.std.proofs.Common.{◌≡◌, ◌≤◌, length}
use Rattle.check_nodes.specs.Walk.{waiting_of}
use Rattle.check_nodes.proofs.walks.next_region.Given as goal

-- the cuts that are left leave the same regions waiting
abbrev pub invariant-loop-cut : goal.invariant-loop-cut
invariant-loop-cut l = record {
  regions : waiting_of l.walk.before ≡ waiting_of l.fn.walk.before;
  width : length l.walk.region ≡ length l.fn.walk.region;
  cuts : length l.walk.before ≤ length l.fn.walk.before;
  room : l.walk.room ≡ l.fn.walk.room;
}

abbrev pub decreases-loop-cut : goal.decreases-loop-cut
decreases-loop-cut l = length l.walk.before
