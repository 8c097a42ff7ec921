use Rattle.branching_law.proofs.BelowRoots.{earned_begins, no_ray_below, best_meets_no_ray, no_fall}
use Rattle.branching_law.proofs.roots.no_ray_below_a_root_without.Goals as goal

pub returns : goal.returns
returns c = record {
  begins = earned_begins;
  forms = λ p turns more is. no_ray_below p is turns more;
  nodes = λ p bases turns path rest n nodes is. best_meets_no_ray p is bases turns path rest n nodes;
  answers = λ p bases path x d is. no_fall p is bases path x d;
}
