use Rattle.mps_writer_law.proofs.FileBack.{text_back}
use Rattle.mps_writer_law.proofs.laws.text_is_read_back.Goals as goal

pub returns : goal.returns
returns c = λ p good small within. text_back p good small within
