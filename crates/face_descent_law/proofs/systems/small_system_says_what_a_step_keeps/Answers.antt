use Rattle.face_descent_law.proofs.Small.{small_symmetric, small_gives, at_places, at_equations, form_is}
use Rattle.face_descent_law.proofs.systems.small_system_says_what_a_step_keeps.Goals as goal

pub returns : goal.returns
returns c = record {
  symmetric = λ n f S is s b. small_symmetric n f is s S b;
  product = λ n f S e l is b h. small_gives n f is S e l b h;
  places = λ n f S e l a is b h k g. at_places n f is S b e l a h k g;
  equations = λ n f S e l a is b h k g. at_equations n f is S b e l a h k g;
  form = λ n f S e l a is b h k g. form_is n f is S b e l a h k g;
}
