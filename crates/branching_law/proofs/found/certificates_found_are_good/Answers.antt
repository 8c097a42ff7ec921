use Rattle.branching_law.proofs.FoundCertificates.{found_is_good}
use Rattle.branching_law.proofs.found.certificates_found_are_good.Goals as goal

pub returns : goal.returns
returns c = λ p reduced bases boxes certificate is. found_is_good p is bases reduced boxes certificate
