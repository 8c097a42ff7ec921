use Rattle.equational_law.proofs.Shapes.{shape, symmetric, semidefinite}
use Rattle.equational_law.proofs.laws.form_fits.Goals as goal

pub returns : goal.returns
returns c = record { shape = shape; symmetric = symmetric; semidefinite = semidefinite }
