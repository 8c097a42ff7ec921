use Rattle.equational_law.proofs.Rays.{fewer_bounds}
use Rattle.quad_solve_law.proofs.RegionRays.{no_ray_within, cut_high_has, cut_low_has}
use Rattle.quad_solve_law.proofs.rays.rays_depend_on_which_bounds_exist.Goals as goal

pub returns : goal.returns
returns c = record {
  none = no_ray_within;
  same = λ p region other d has had. (fewer_bounds p other region d had, fewer_bounds p region other d has);
  left = λ region j k. cut_high_has region j _;
  right = λ region j k. cut_low_has region j _;
}
