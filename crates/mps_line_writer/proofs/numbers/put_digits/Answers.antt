use Rattle.std.proofs.Common.{arith, ◌≡◌, ◌+◌, ◌-◌}
use Rattle.mps_line_writer.proofs.DigitLemmas.{fewer_digits, last_digit, first_digit}
use Rattle.mps_line_writer.proofs.numbers.put_digits.Goals as goal

pub loop-rest-preserved : goal.loop-rest-preserved
loop-rest-preserved c =
    let one_less : c.loop-rest.at + 39 - c.args.end ≡ (c.put_byte-at.result + 39 - c.args.end) + 1 = omega arith in
    let fewer = fewer_digits c.loop-rest.rest (c.loop-rest.at + 39 - c.args.end) (c.put_byte-at.result + 39 - c.args.end) one_less c.loop-rest-test.true c.loop-rest.invariant.2 in
    (omega arith, omega arith, fewer.1, last_digit c.loop-rest.rest _ _ _ c.loop-rest-test.true (omega arith) c.put_byte-at.ensures.bytes c.loop-rest.invariant.3)

pub returns-clause-digits : goal.returns-clause-digits
returns-clause-digits c = first_digit c.loop-rest.rest _ _ _ c.loop-rest-test.false c.put_byte.ensures.bytes c.loop-rest.invariant.3
