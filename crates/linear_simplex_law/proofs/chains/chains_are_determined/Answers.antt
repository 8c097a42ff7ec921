use Rattle.linear_simplex_law.proofs.OneChain.{is_leaving, is_exchange, one_step, one_chain}
use Rattle.linear_simplex_law.proofs.chains.chains_are_determined.Goals as goal

pub returns : goal.returns
returns c = record {
  rule = λ p b c problem h standing step. (step.enter, step.leave, is_leaving p problem b h standing c step, is_exchange p problem b h standing c step);
  step = λ p b c d problem h standing. one_step p problem b h standing c d;
  chain = λ p one other problem. one_chain p problem one other;
}
