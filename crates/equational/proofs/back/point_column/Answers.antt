use Rattle.std.proofs.Common.{◌∙◌, drop}
use Rattle.equational.proofs.Walked.{point_above, point_below, point_free}
use Rattle.equational.proofs.back.point_column.Goals as goal

pub returns-in-Some-default : goal.returns-in-Some-default
returns-in-Some-default c = point_above c.args.bounds.now c.args.z.now c.args.place _ _ c.added.result c.in-Some-default.is-0 c.at.ensures c.added.ensures

pub returns-in-None-Some : goal.returns-in-None-Some
returns-in-None-Some c =
    point_below c.args.bounds.now c.args.z.now c.args.place _ _ c.subtracted.result c.in-None-Some.is-0 c.in-None-Some.is-1 c.at-in-None-Some.ensures c.subtracted.ensures

pub returns-in-None-None : goal.returns-in-None-None
returns-in-None-None c = c.difference.ensures ∙ point_free c.args.bounds.now (drop c.args.place c.args.z.now) c.in-None-None.is-0 c.in-None-None.is-1
