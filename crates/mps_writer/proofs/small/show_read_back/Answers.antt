use Rattle.mps_writer_law.proofs.FileBack.{text_back}
use Rattle.mps_writer.proofs.small.show_read_back.Goals as goal

pub returns : goal.returns
returns c = λ within. text_back c.args.p.now c.show_numbers.ensures.program c.show_numbers.ensures.numbers within
