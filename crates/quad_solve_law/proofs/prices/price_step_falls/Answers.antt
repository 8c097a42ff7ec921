use Rattle.quad_solve_law.proofs.Moves.{step_goes, step_solves, step_falls, flat_lessens}
use Rattle.quad_solve_law.proofs.Lengths.{some_step, one_step}
use Rattle.quad_solve_law.proofs.Worked.{one_leads_down, one_is_the_step}
use Rattle.quad_solve_law.proofs.prices.price_step_falls.Goals as goal

pub returns : goal.returns
returns c = record {
  goes = λ n f z d s form semi down step. step_goes n f z d form semi down s step;
  solution = λ n f z d s form semi at down step. step_solves n f z d form semi down s step at;
  falls = λ n f z d s form semi at down step. step_falls n f z d form semi down s step at;
  some = λ n f z d form semi at down. some_step n f z d form semi at down;
  one = λ n f z d s t form semi down. one_step n f z d form semi down s t;
  lessens = λ n f z d form semi at down. flat_lessens n f z d form semi down at;
  worked = (one_leads_down, one_is_the_step);
}
