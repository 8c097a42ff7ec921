use Rattle.qp_answers.proofs.Written.{three_parts}
use Rattle.qp_answers.proofs.withheld.push_chain.Goals as goal

pub returns : goal.returns
returns c = three_parts _ _ _ _ _ _ _ c.in_ok-push_chain_line.ensures c.in_ok-push_at_lines.ensures c.in_ok-push_basic_lines.ensures
