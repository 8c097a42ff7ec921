use Rattle.quad_solve_law.proofs.Directions.{rays_form_a_problem, solution_is_ray, ray_is_solution, refuted_has_none, falling_form_falls}
use Rattle.quad_solve_law.proofs.rays.ray_problem_tells_rays.Goals as goal

pub returns : goal.returns
returns c = record { problem = rays_form_a_problem; ray = solution_is_ray; every = ray_is_solution; none = refuted_has_none; worked = falling_form_falls }
