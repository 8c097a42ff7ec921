use Rattle.quad_solve_law.proofs.SomeAnswer.{answer_within, more_answers}
use Rattle.quad_solve_law.proofs.OneAnswer.{one_answer, one_found}
use Rattle.quad_solve_law.proofs.answers.regions_have_answers.Goals as goal

pub returns : goal.returns
returns c = record {
  some = answer_within;
  one = λ p region a b one other is wide semi. one_answer p region is wide semi a b one other;
  found = λ p region a b x y is wide. one_found p region is wide a b x y;
  more = more_answers;
}
