use Rattle.std.proofs.Common.{subst, Option}
use Rattle.rational.specs.Rational.{ℚ}
use Rattle.rational.specs.Rounding.{floor_of}
use Rattle.branching_law.specs.Rounding.{IsBroken}
use Rattle.search_steps.proofs.Bounded.{column_here, raised}
use Rattle.search_steps.proofs.rounding.Rounding.raise_low.Goals as goal

pub low-requires : goal.low-requires
low-requires c = column_here c.args.p.now c.args.j c.args.self.now c.requires.rounded c.requires.marked

pub returns-in_ok-go_to : goal.returns-in_ok-go_to
returns-in_ok-go_to c =
    let r = raised c.args.p.now c.args.j c.args.self.now c.requires.rounded c.requires.marked c.go_to.new.self c.turn_at.result (floor_of c.in-Some.low) c.requires.uncrossed
    (subst (λ (b : Option ℚ). IsBroken b (floor_of c.in-Some.low)) c.low.ensures c.in-Some.ensures.broken) c.turn_at.ensures.turn c.turn_at.ensures.fits c.in_ok-go_to.ensures.turns c.in_ok-go_to.ensures.region in
    record { rounded = r.0; low = r.1 }
