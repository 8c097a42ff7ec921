use Rattle.program_law.specs.Program.{bounds}
use Rattle.equational_law.proofs.Rays.{is_ray}
use Rattle.branching_law.specs.Paths.{region_of}
use Rattle.branching_law.proofs.PathRegions.{behind_has}
use Rattle.branching_law.proofs.BelowRoots.{point_root, best_root}
use Rattle.branching_law.proofs.ProgramRays.{rounding_adds_none, rounded_ray}
use Rattle.branching_law.proofs.roots.search_is_told_by_its_root.Goals as goal

pub returns : goal.returns
returns c = record {
  point = λ p bases turns nodes open_paths is earned.
      let r = point_root p is bases turns nodes open_paths earned in
      (r.0, r.1, (r.2.0, is_ray p (region_of p turns) r.2.0 (behind_has (bounds p) turns) r.2.1));
  best = λ p bases turns n nodes open_paths x d is earned point ray.
      let r = rounded_ray p turns d earned.rounding.turns_due ray in
      best_root p is bases turns open_paths n nodes earned x r.0 point r.1;
  bounds = λ p turns. rounding_adds_none p (bounds p) turns;
}
