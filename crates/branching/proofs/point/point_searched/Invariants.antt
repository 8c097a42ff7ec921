use Rattle.std.proofs.Common.{true}
use Rattle.quad_solve.specs.Answers.{HasSizes, IsAnyPointOf}
use Rattle.branching_law.specs.Nodes.{ForPoint}
use Rattle.search_steps.specs.Progressing.{IsOnWay, work_left}
use Rattle.branching.proofs.point.point_searched.Given as goal

-- the search is on its way, with the answer of the path at hand
abbrev pub invariant-paths : goal.invariant-paths
invariant-paths l = record {
  way : IsOnWay ForPoint l.p l.limits.bases l.limits.boxes true l.progress;
  answer : IsAnyPointOf l.p l.progress.trail.walk.region l.limits.bases l.answer;
  sizes : HasSizes l.p l.answer;
}

abbrev pub decreases-paths : goal.decreases-paths
decreases-paths l = work_left l.limits.boxes l.progress
