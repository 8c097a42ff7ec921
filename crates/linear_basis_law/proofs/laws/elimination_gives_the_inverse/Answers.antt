use Rattle.linear_basis_law.proofs.Eliminated.{basis_eliminated, eliminated_basis}
use Rattle.linear_basis_law.proofs.laws.elimination_gives_the_inverse.Goals as goal

pub returns : goal.returns
returns c = record { inverse = basis_eliminated; basis = eliminated_basis }
