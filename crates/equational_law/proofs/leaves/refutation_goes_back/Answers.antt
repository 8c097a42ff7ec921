use Rattle.equational_law.proofs.FarkasBack.{farkas_back}
use Rattle.equational_law.proofs.leaves.refutation_goes_back.Goals as goal

pub returns : goal.returns
returns c = farkas_back
