use Rattle.branching_law.proofs.WorkedRounding.{rounding, found}
use Rattle.branching_law.proofs.WorkedSearch.{found as found_odd}
use Rattle.branching_law.proofs.WorkedOptimum.{found as found_bowl}
use Rattle.branching_law.proofs.WorkedRays.{found_tilted, found_sliding, found_slope}
use Rattle.branching_law.proofs.worked.worked_programs_have_their_certificates.Goals as goal

pub returns : goal.returns
returns c = record { rounding = rounding; narrow = found; odd = found_odd; bowl = found_bowl; tilted = found_tilted; sliding = found_sliding; slope = found_slope }
