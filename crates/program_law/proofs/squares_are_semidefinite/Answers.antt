use Rattle.program_law.proofs.Squared.{squares_semidefinite}
use Rattle.program_law.proofs.squares_are_semidefinite.Goals as goal

pub returns : goal.returns
returns c = squares_semidefinite
