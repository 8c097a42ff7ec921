use Rattle.std.proofs.Common.{◌≡◌}
use Rattle.sample_make.specs.Begun.{begun}
use Rattle.sample_make.specs.Samples.{plan_of}
use Rattle.sample_make.proofs.building.fill.Given as goal

abbrev pub invariant-loop-j : goal.invariant-loop-j
invariant-loop-j l = l.program ≡ begun (plan_of l.kind l.draws) (plan_of l.kind l.draws).rows l.j
