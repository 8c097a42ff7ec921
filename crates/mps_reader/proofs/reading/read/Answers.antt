use Rattle.mps_lines.specs.Reading.{spot_of}
use Rattle.mps_reader.proofs.FinishedReading.{reads_finished, place_kept}
use Rattle.mps_reader.proofs.SoundLines.{told-whole}
use Rattle.mps_reader.proofs.reading.read.Goals as goal

pub finished-requires-clause-sound : goal.finished-requires-clause-sound
finished-requires-clause-sound c = (told-whole c.args.text.now c.in_ok-draft.draft (spot_of c.in_ok-draft.place) c.in_ok-draft.ensures.tells).sound

pub finished-requires-clause-columns : goal.finished-requires-clause-columns
finished-requires-clause-columns c = (told-whole c.args.text.now c.in_ok-draft.draft (spot_of c.in_ok-draft.place) c.in_ok-draft.ensures.tells).columns

pub returns-clause-reads : goal.returns-clause-reads
returns-clause-reads c = reads_finished c.args.text.now c.in_ok-draft.draft (spot_of c.in_ok-draft.place) c.finished.result c.in_ok-draft.ensures.tells c.finished.ensures.reads

pub returns-clause-place : goal.returns-clause-place
returns-clause-place c = place_kept c.args.text.now c.in_ok-draft.place c.finished.result c.in_ok-draft.ensures.place c.finished.ensures.place
