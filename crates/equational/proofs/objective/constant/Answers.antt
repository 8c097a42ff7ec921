use Rattle.program_law.proofs.Numbers.{two_differs}
use Rattle.equational.proofs.objective.constant.Goals as goal

pub divided-requires : goal.divided-requires
divided-requires c = two_differs c.whole.result c.whole.ensures
