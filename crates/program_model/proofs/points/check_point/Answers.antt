use Rattle.std.proofs.Common.{sym, ◌∙◌}
use Rattle.program_model.proofs.PointLemmas.{point_event, inside}
use Rattle.program_model.proofs.points.check_point.Goals as goal

pub told-requires : goal.told-requires
told-requires c = point_event c.args.p.now c.args.region.now c.args.x.now c.in-Err.event (sym c.in-Err.is ∙ c.point_tested.ensures)

pub returns-in-Ok-clause-inside : goal.returns-in-Ok-clause-inside
returns-in-Ok-clause-inside c = inside c.args.p.now c.args.region.now c.args.x.now c.columns-columns.ensures.program c.requires.region c.requires.point (sym c.in-Ok.is ∙ c.point_tested.ensures)
