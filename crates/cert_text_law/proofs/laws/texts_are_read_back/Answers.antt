use Rattle.cert_text_law.proofs.ReadBack.{read_back, one_text}
use Rattle.cert_text_law.proofs.Accepts.{read_writable}
use Rattle.cert_text_law.proofs.TextBack.{text_back, items_back}
use Rattle.cert_text_law.proofs.laws.texts_are_read_back.Goals as goal

pub returns : goal.returns
returns c = record { back = read_back; one = one_text; text = text_back; writable = read_writable; items = items_back }
