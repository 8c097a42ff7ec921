use Rattle.std.proofs.Common.{◌∙◌, sym}
use Rattle.quad_solve.proofs.Searched.{all_right, all_sizes}
use Rattle.quad_solve.proofs.feasibility.any_point.Goals as goal

pub returns-in-None-clause-right : goal.returns-in-None-clause-right
returns-in-None-clause-right c =
    all_right c.args.p.now c.args.region.now c.columns-columns.ensures.program c.requires c.args.bases c.uncrossed.result (sym c.crossed.ensures.first ∙ c.in-None.is) c.uncrossed.ensures.answer

pub returns-in-None-clause-sizes : goal.returns-in-None-clause-sizes
returns-in-None-clause-sizes c =
    all_sizes c.args.p.now c.args.region.now c.columns-columns.ensures.program c.requires c.args.bases c.uncrossed.result (sym c.crossed.ensures.first ∙ c.in-None.is) c.uncrossed.ensures.answer
