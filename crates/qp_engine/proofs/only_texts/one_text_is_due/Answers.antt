use Rattle.qp_engine.proofs.OneText.{one_text, one_of_input}
use Rattle.qp_engine.proofs.only_texts.one_text_is_due.Goals as goal

pub returns : goal.returns
returns c = record {
  program = λ p bases boxes one other is. one_text p is bases boxes one other;
  input = one_of_input;
}
