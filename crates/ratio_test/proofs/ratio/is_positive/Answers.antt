use Rattle.std.proofs.Common.{arith}
use Rattle.std.proofs.lemmas.Int.{ints}
use Rattle.ratio_test.proofs.Numbers.{positive_of_num, num_of_positive}
use Rattle.ratio_test.proofs.ratio.is_positive.Goals as goal

pub returns : goal.returns
returns c = ((λ h. positive_of_num c.args.x (grind (arith, ints))), (λ h. let k = num_of_positive c.args.x h in grind (arith, ints)))
