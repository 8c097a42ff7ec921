use Rattle.cert_fields.proofs.NumbersRead.{number_read}
use Rattle.cert_fields.proofs.NumbersBack.{number_back}
use Rattle.cert_fields.proofs.laws.numbers_are_read_back.Goals as goal

pub returns : goal.returns
returns c = record { back = number_read; text = λ bytes v e. (number_back bytes v e).text; fits = λ bytes v e. (number_back bytes v e).fits }
