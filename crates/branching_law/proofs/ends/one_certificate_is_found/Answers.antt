use Rattle.branching_law.proofs.OneCertificate.{certificate_is_one, incumbent_is_one}
use Rattle.branching_law.proofs.LargerBudgets.{more_certificates}
use Rattle.branching_law.proofs.ends.one_certificate_is_found.Goals as goal

pub returns : goal.returns
returns c = record {
  certificate = certificate_is_one;
  more = λ p reduced bases others boxes more c l m. more_certificates p bases others l reduced boxes more c m;
  incumbent = incumbent_is_one;
}
