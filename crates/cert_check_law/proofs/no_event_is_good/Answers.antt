use Rattle.cert_check_law.proofs.Checks.{no_event_is_good as lemma}
use Rattle.cert_check_law.proofs.no_event_is_good.Goals as goal

pub returns : goal.returns
returns c = lemma
