use Rattle.mps_reader.proofs.WholePrograms.{read_program}
use Rattle.mps_reader.proofs.laws.what_is_read_is_a_program.Goals as goal

pub returns : goal.returns
returns c = read_program
