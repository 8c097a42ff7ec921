use Rattle.std.proofs.Common.{refl, ap, ◌∙◌}
use Rattle.program_law.specs.Region.{cut_low}
use Rattle.search_steps.proofs.Outcomes.{done}
use Rattle.search_steps.proofs.Ways.{turned_trail}
use Rattle.search_steps.proofs.trails.Trail.go_on.Goals as goal

pub returns-in-Below-clause-trail : goal.returns-in-Below-clause-trail
returns-in-Below-clause-trail c = λ p h _.
    turned_trail p c.loop-cut.self (record { turns = c.loop-cut.self.turns; walk = c.undo.new.self }) c.in-Some.cut c.in-Some.ensures.some (c.loop-cut.invariant.trail p h)
    (record { turns = c.loop-cut.self.turns; walk = c.cut_low.new.self }) c.other_side.result refl c.other_side.ensures
    (done c.cut_low.result c.is_err.result _ c.is_err.ensures.value c.if-is_err.false c.cut_low.ensures.before)
    (done c.cut_low.result c.is_err.result _ c.is_err.ensures.value c.if-is_err.false c.cut_low.ensures.region
    ∙ ap (cut_low c.undo.new.self.region c.in-Some.cut.column) c.whole_above-above.ensures)
