use Rattle.mps_reader.proofs.AppendedReading.{rest_more, drop_more}
use Rattle.mps_reader.proofs.laws.appended_text_is_found.Goals as goal

pub returns : goal.returns
returns c = record { place = rest_more; text = drop_more }
