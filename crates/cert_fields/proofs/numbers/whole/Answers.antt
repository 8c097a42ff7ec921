use Rattle.cert_fields.proofs.NumberLemmas.{whole_number}
use Rattle.cert_fields.proofs.numbers.whole.Goals as goal

pub returns-in-Ok : goal.returns-in-Ok
returns-in-Ok c = whole_number c.args.negative c.args.digits.now c.in-Ok.size c.with_sign.result c.whole.result c.in-Ok.ensures.0 c.in-Ok.ensures.1 c.in-Ok.ensures.2 c.with_sign.ensures c.whole.ensures
