use Rattle.certificate_law.proofs.Verdicts.{good_is_true}
use Rattle.branching_law.proofs.FoundCertificates.{found_is_good}
use Rattle.branching_law.proofs.found.certificates_found_are_true.Goals as goal

pub returns : goal.returns
returns c = λ p reduced bases boxes certificate is reduces found. good_is_true p certificate (found_is_good p is bases reduced boxes certificate reduces found)
