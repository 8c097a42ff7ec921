use Rattle.mps_tokens.proofs.Tens.{power_fits, power_in_word, ten_pos}
use Rattle.mps_tokens.proofs.natural.power_of_ten.Goals as goal

pub pow-requires : goal.pow-requires
pow-requires c = power_in_word c.args.power c.requires

pub returns-clause-fits : goal.returns-clause-fits
returns-clause-fits c = rw c.pow.ensures (power_fits c.args.power c.requires)

pub returns-clause-positive : goal.returns-clause-positive
returns-clause-positive c = rw c.pow.ensures (ten_pos c.args.power)
