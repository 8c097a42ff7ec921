use Rattle.equational_law.specs.Standing.{parts}
use Rattle.equational_law.proofs.Adjoint.{adjoint, spread_zero}
use Rattle.equational_law.proofs.laws.spread_is_adjoint.Goals as goal

pub returns : goal.returns
returns c = record { products = adjoint; zero = λ region v. spread_zero region v (parts region) }
