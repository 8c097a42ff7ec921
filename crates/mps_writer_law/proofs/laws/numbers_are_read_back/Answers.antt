use Rattle.mps_writer_law.proofs.Numerals.{number_back}
use Rattle.mps_writer_law.proofs.laws.numbers_are_read_back.Goals as goal

pub returns : goal.returns
returns c = λ q h. number_back q h
