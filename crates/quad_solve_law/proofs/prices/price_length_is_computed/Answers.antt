use Rattle.quad_solve_law.proofs.Lengths.{length_is}
use Rattle.quad_solve_law.proofs.prices.price_length_is_computed.Goals as goal

pub returns : goal.returns
returns c = λ n f z d s form semi at down. length_is n f z d form semi at down s
