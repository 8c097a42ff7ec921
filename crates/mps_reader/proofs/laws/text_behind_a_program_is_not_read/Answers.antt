use Rattle.mps_reader.proofs.AppendedReading.{read_more}
use Rattle.mps_reader.proofs.laws.text_behind_a_program_is_not_read.Goals as goal

pub returns : goal.returns
returns c = read_more
