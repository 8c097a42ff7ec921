use Rattle.branching_law.proofs.Counted.{counted_wholes}
use Rattle.branching_law.proofs.leaves.wholes_are_counted.Goals as goal

pub returns : goal.returns
returns c = counted_wholes
