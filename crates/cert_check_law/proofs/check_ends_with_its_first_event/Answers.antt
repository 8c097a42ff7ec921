use Rattle.cert_check_law.proofs.Checks.{ends_as_listed as lemma}
use Rattle.cert_check_law.proofs.check_ends_with_its_first_event.Goals as goal

pub returns : goal.returns
returns c = lemma
