use Rattle.branching_law.proofs.PathRegions.{behind_last, length-behind, behind_has, inside}
use Rattle.branching_law.proofs.BelowRoots.{behind_append}
use Rattle.branching_law.proofs.paths.turns_cut_a_region.Goals as goal

pub returns : goal.returns
returns c = record { last = behind_last; more = behind_append; columns = length-behind; bounds = behind_has; inside = inside }
