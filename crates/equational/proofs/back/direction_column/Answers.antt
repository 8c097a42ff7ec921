use Rattle.std.proofs.Common.{◌∙◌, drop}
use Rattle.equational.proofs.Walked.{ray_above, ray_below, ray_free}
use Rattle.equational.proofs.back.direction_column.Goals as goal

pub returns-in-Some-default : goal.returns-in-Some-default
returns-in-Some-default c = ray_above c.args.bounds.now c.args.d.now c.args.place _ _ c.in-Some-default.is-0 c.at.ensures

pub returns-in-None-Some : goal.returns-in-None-Some
returns-in-None-Some c =
    rw c.neg.ensures (ray_below c.args.bounds.now c.args.d.now c.args.place _ _ c.in-None-Some.is-0 c.in-None-Some.is-1 c.at-in-None-Some.ensures)

pub returns-in-None-None : goal.returns-in-None-None
returns-in-None-None c = c.difference.ensures ∙ ray_free c.args.bounds.now (drop c.args.place c.args.d.now) c.in-None-None.is-0 c.in-None-None.is-1
