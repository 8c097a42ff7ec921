use Rattle.equational_law.proofs.Rays.{ray_back, ray_of, ray_from, fewer_bounds, is_ray}
use Rattle.equational_law.proofs.laws.rays_are_directions.Goals as goal

pub returns : goal.returns
returns c = record {
  direction = ray_back;
  every = λ p region d is e r. let s = ray_from p region d is e r in (ray_of p region d, s.0, s.1);
  fewer = fewer_bounds;
  ray = is_ray;
}
