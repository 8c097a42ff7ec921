use Rattle.branching_law.proofs.FirstCrossed.{first_tested, none_tested}
use Rattle.branching_law.proofs.sizes.first_crossed_column_is_tested.Goals as goal

pub returns : goal.returns
returns c = record { first = first_tested; none = none_tested }
