use Rattle.linear_simplex_law.proofs.Steps.{some_entering, ratio_steps, goes_on}
use Rattle.linear_simplex_law.proofs.chains.chain_goes_on.Goals as goal

pub returns : goal.returns
returns c = record {
  enters = some_entering;
  rule = λ p b j l problem. ratio_steps p problem b j l;
  some = λ p b problem. goes_on p problem b;
}
