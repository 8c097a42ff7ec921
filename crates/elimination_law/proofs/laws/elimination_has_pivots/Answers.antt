use Rattle.elimination_law.proofs.Facts.{all_shaped}
use Rattle.elimination_law.proofs.laws.elimination_has_pivots.Goals as goal

pub returns : goal.returns
returns c = all_shaped
