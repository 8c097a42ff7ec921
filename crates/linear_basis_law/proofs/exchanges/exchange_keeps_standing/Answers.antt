use Rattle.linear_basis_law.proofs.Leaving.{stays_standing, level_falls}
use Rattle.linear_basis_law.proofs.Only.{only_leaving}
use Rattle.linear_basis_law.proofs.exchanges.exchange_keeps_standing.Goals as goal

pub returns : goal.returns
returns c = record {
  standing = λ p b problem h j l within leaving standing. stays_standing p b h j problem within l leaving standing;
  only = only_leaving;
  falls = λ p b problem h j l within leaving standing falling. level_falls p b h j problem within l leaving standing falling;
}
