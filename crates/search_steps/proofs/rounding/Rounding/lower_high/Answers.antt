use Rattle.std.proofs.Common.{subst, Option}
use Rattle.rational.specs.Rational.{ℚ}
use Rattle.rational.specs.Rounding.{floor_of}
use Rattle.branching_law.specs.Rounding.{IsBroken}
use Rattle.search_steps.proofs.Bounded.{column_here, lowered}
use Rattle.search_steps.proofs.rounding.Rounding.lower_high.Goals as goal

pub high-requires : goal.high-requires
high-requires c = column_here c.args.p.now c.args.j c.args.self.now c.requires.rounded c.requires.marked

pub returns-in_ok-go_to : goal.returns-in_ok-go_to
returns-in_ok-go_to c =
    lowered c.args.p.now c.args.j c.args.self.now c.requires.rounded c.requires.marked c.go_to.new.self c.turn_at.result (floor_of c.in-Some.high) c.requires.uncrossed c.requires.low
    (subst (λ (b : Option ℚ). IsBroken b (floor_of c.in-Some.high)) c.high.ensures c.in-Some.ensures.broken) c.turn_at.ensures.turn c.turn_at.ensures.fits c.in_ok-go_to.ensures.turns c.in_ok-go_to.ensures.region
