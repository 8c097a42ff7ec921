use Rattle.mps_line_writer.proofs.DigitLemmas.{without_one, behind_slash}
use Rattle.mps_line_writer.proofs.numbers.put_denominator.Goals as goal

pub returns-then-number-eq1-clause-digits : goal.returns-then-number-eq1-clause-digits
returns-then-number-eq1-clause-digits c = without_one c.args.number 81 c.args.buffer.now _ c.if-number-eq1.true c.told-buffer

pub returns-clause-digits : goal.returns-clause-digits
returns-clause-digits c = behind_slash c.args.number 81 c.args.buffer.now _ _ c.if-number-eq1.false c.told-buffer c.put_digits-at.ensures.digits c.put_byte.ensures.bytes
