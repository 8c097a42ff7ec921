use Rattle.std.proofs.Common.{◌≡◌, length}
use Rattle.program_law.specs.Program.{Program}
use Rattle.search_steps.specs.Trails.{waiting_of, IsTrail}
use Rattle.search_steps.proofs.trails.Trail.go_on.Given as goal

-- the same paths wait
abbrev pub invariant-loop-cut : goal.invariant-loop-cut
invariant-loop-cut l = record {
  waiting : waiting_of l.self ≡ waiting_of l.fn.self;
  turns : l.self.turns ≡ l.fn.self.turns;
  trail : (p : Program) → IsTrail p l.fn.self → IsTrail p l.self;
}

abbrev pub decreases-loop-cut : goal.decreases-loop-cut
decreases-loop-cut l = length l.self.walk.before
