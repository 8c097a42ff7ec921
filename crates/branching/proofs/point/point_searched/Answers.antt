use Rattle.std.proofs.Common.{refl, subst}
use Rattle.branching_law.specs.Nodes.{ForPoint}
use Rattle.branching.specs.declared.point.Outcome.{Outcome}
use Rattle.branching.specs.Reaching.{IsTakenTo}
use Rattle.branching.proofs.Halted.{path_at_hand}
use Rattle.branching.proofs.point.point_searched.Goals as goal

pub pointed-requires : goal.pointed-requires
pointed-requires c =
    let more = subst (λ (o : Outcome). IsTakenTo c.args.p.now c.args.limits.bases c.args.limits.boxes c.paths.progress c.taken.new.progress o) c.in-More.is c.in_ok-x.ensures.taken in
    record { trail = more.0.trail refl; path = path_at_hand ForPoint c.args.p.now c.args.limits.bases c.args.limits.boxes c.taken.new.progress more.0 }
