use Rattle.std.proofs.Common.{◌∙◌}
use Rattle.face_descent_law.proofs.Moves.{solution_there, zero_there, nearest_there, capped_there, nearest_positive, no_more_places, loses_a_place}
use Rattle.face_descent_law.proofs.steps.moves_keep_solutions.Goals as goal

pub returns : goal.returns
returns c = record {
  solution = λ n f z d s is sol long keeps p within. solution_there n z d s (sol.width ∙ is.cost) long f is.cost sol keeps is.right p within;
  reached = λ n z d s wide long h. zero_there n z d s wide long h;
  nearest = nearest_there;
  capped = capped_there;
  positive = nearest_positive;
  support = λ n z d s wide long off. no_more_places n z d s wide long off;
  lost = λ n z d s wide long off h. loses_a_place n z d s wide long off h;
}
