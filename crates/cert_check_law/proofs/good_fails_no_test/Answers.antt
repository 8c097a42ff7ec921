use Rattle.cert_check_law.proofs.Checks.{good_passes as lemma}
use Rattle.cert_check_law.proofs.good_fails_no_test.Goals as goal

pub returns : goal.returns
returns c = lemma
