use Rattle.std.proofs.Common.{Bool, Ok, ap}
use Rattle.branching_law.specs.Nodes.{ForPoint}
use Rattle.search_steps.proofs.Onward.{point_inner}
use Rattle.branching.proofs.point.point_taken.Goals as goal

pub branched-requires-clause-inner : goal.branched-requires-clause-inner
branched-requires-clause-inner c = (ForPoint, point_inner c.args.p.now c.args.limits.bases c.args.limits.boxes c.args.progress.now c.requires.way c.args.x c.requires.uncrossed c.requires.found)

pub returns-then-branch-clause-taken : goal.returns-then-branch-clause-taken
returns-then-branch-clause-taken c =
    let branched = ap (λ (b : Bool). Ok b) c.if-branch.true in
    let inner = point_inner c.args.p.now c.args.limits.bases c.args.limits.boxes c.args.progress.now c.requires.way c.args.x c.requires.uncrossed c.requires.found in
    ((c.in_ok-branched.ensures.way ForPoint inner branched).way, c.in_ok-branched.ensures.work branched)
