use Rattle.mps_tokens.proofs.Tens.{raised_past, raised_more}
use Rattle.mps_tokens.proofs.natural.Natural.raised.Goals as goal

pub returns-then-power-gt-MOST_ZEROS : goal.returns-then-power-gt-MOST_ZEROS
returns-then-power-gt-MOST_ZEROS c = λ v h. raised_past c.args.self _ v c.args.power c.in-Fits.is c.if-n-eq0.false c.if-power-gt-MOST_ZEROS.true h

pub returns-in-Past : goal.returns-in-Past
returns-in-Past c = λ v h. raised_more c.args.self v c.args.power c.in-Past.is h
