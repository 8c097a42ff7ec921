use Rattle.qp_engine.proofs.Enough.{sampled}
use Rattle.qp_engine.proofs.laws.large_budgets_decide_a_sample.Goals as goal

pub returns : goal.returns
returns c = λ order s room many_bases many_boxes due. sampled order s room many_bases many_boxes due
