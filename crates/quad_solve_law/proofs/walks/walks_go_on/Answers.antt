use Rattle.std.proofs.Common.{refl}
use Rattle.quad_solve_law.proofs.WalkSteps.{start_solves, step_or_end, goes_further, shrinks_further, on_walk, step_on_walk, shrinks_on_walk}
use Rattle.quad_solve_law.proofs.walks.walks_go_on.Goals as goal

pub returns : goal.returns
returns c = record {
  starts = λ n f z solved. record { start = z; solved = solved; steps = refl };
  solution = start_solves;
  step = λ n f x v earlier way next form semi start. goes_further n f form semi x start v earlier way next;
  shrinks = λ n f x v earlier points form semi start. shrinks_further n f form semi x start v earlier points;
  points = λ n f walk h. on_walk n f h.start walk h.solved h.steps;
  reached = step_on_walk;
  shrunk = shrinks_on_walk;
  some = λ n f z form semi. step_or_end n f form semi z;
}
