use Rattle.branching_law.proofs.Convex.{convex_by_squares}
use Rattle.branching_law.proofs.found.squares_make_a_program_convex.Goals as goal

pub returns : goal.returns
returns c = λ p squares. convex_by_squares p squares
