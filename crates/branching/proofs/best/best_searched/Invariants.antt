use Rattle.std.specs.Prelude.{if◌then◌else◌}
use Rattle.std.proofs.Common.{◌+◌}
use Rattle.branching_law.specs.Nodes.{ForBest}
use Rattle.search_steps.specs.Progressing.{HasBegun, work_left}
use Rattle.branching.proofs.best.best_searched.Given as goal

-- the search is on its way, and has taken a node
abbrev pub invariant-paths : goal.invariant-paths
invariant-paths l = HasBegun ForBest l.p l.limits.bases l.limits.boxes l.more l.progress

abbrev pub decreases-paths : goal.decreases-paths
decreases-paths l = if l.more then work_left l.limits.boxes l.progress + 1 else 0
