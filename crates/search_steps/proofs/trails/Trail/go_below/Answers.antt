use Rattle.std.proofs.Common.{refl, ap, ◌∙◌}
use Rattle.rational.specs.Rounding.{floor_of}
use Rattle.program_law.specs.Region.{cut_high}
use Rattle.search_steps.proofs.Ways.{below_trail}
use Rattle.search_steps.proofs.trails.Trail.go_below.Goals as goal

pub returns-clause-trail : goal.returns-clause-trail
returns-clause-trail c = λ p trail.
    below_trail p c.args.self.now _ c.args.j (floor_of c.args.x) c.turn_at-turn.result trail refl c.in_ok-cut_high.ensures.before c.turn_at-turn.ensures.turn
    (c.in_ok-cut_high.ensures.region ∙ ap (cut_high c.args.self.now.walk.region c.args.j) c.whole_before.ensures) c.turn_at-turn.ensures.next
