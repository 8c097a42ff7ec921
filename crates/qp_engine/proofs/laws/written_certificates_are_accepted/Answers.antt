use Rattle.qp_engine.proofs.Accepted.{accepted_due}
use Rattle.qp_engine.proofs.laws.written_certificates_are_accepted.Goals as goal

pub returns : goal.returns
returns c = accepted_due
