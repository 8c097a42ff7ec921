use Rattle.std.proofs.Common.{refl, arith, ◌<◌, length}
use Rattle.rational.specs.Rounding.{floor_of}
use Rattle.search_steps.proofs.Columns.{entry_at}
use Rattle.search_steps.proofs.Grown.{branched_work}
use Rattle.search_steps.proofs.Onward.{branch_begun, branches_spent, column_at_hand, fewer_taken}
use Rattle.branching.proofs.branches.branched.Goals as goal

pub returns-then-progress-limits-clause-stop : goal.returns-then-progress-limits-clause-stop
returns-then-progress-limits-clause-stop c = (
  refl,
  branches_spent c.requires.inner.0 c.args.p.now c.args.limits.bases c.args.limits.boxes c.args.x.now c.args.progress.now c.requires.inner.1 c.in-Some.j c.in-Some.ensures.first c.if-progress-limits.true,
)

pub branch-progress-requires-clause-column : goal.branch-progress-requires-clause-column
branch-progress-requires-clause-column c =
    column_at_hand c.requires.inner.0 c.args.p.now c.args.limits.bases c.args.limits.boxes c.args.progress.now c.requires.inner.1.way c.in-Some.j c.in-Some.ensures.place

pub returns-clause-way : goal.returns-clause-way
returns-clause-way c = λ aim inner _.
    let within : c.in-Some.j < length c.args.x.now = omega (arith, c.in-Some.ensures.place, c.requires.length) in
    branch_begun aim c.args.p.now c.args.limits.bases c.args.limits.boxes c.args.x.now c.args.progress.now inner c.branch-progress.new.self c.in-Some.j c.entry.result c.in-Some.ensures.first
    (entry_at c.args.x.now c.in-Some.j c.entry.result within c.entry.ensures) c.if-progress-limits.false c.branch-progress.ensures.fits
    (c.in_ok-branch.ensures.trail c.args.p.now (inner.way.trail refl)) c.in_ok-branch.ensures.branched

pub returns-clause-work : goal.returns-clause-work
returns-clause-work c = λ _.
    branched_work c.args.limits.boxes c.args.progress.now c.branch-progress.new.self c.in-Some.j (floor_of c.entry.result) c.in_ok-branch.ensures.branched
    (fewer_taken c.requires.inner.0 c.args.p.now c.args.limits.bases c.args.limits.boxes c.args.progress.now c.requires.inner.1.way c.if-progress-limits.false)
