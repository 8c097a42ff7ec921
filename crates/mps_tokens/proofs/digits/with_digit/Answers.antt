use Rattle.std.proofs.Common.{◌+◌, ◌*◌, ◌^◌}
use Rattle.mps_tokens.proofs.Tens.{zero_more, digit_more}
use Rattle.mps_tokens.proofs.digits.with_digit.Goals as goal

pub returns-then-digit-eq0-clause-value : goal.returns-then-digit-eq0-clause-value
returns-then-digit-eq0-clause-value c = λ v h. (h.0, zero_more v h.0 c.args.digits.zeros c.args.digit c.if-digit-eq0.true h.1, h.2)

pub returns-clause-value : goal.returns-clause-value
returns-clause-value c = λ v h. (
  h.0 * 10 ^ (c.args.digits.zeros + 1) + c.args.digit,
  digit_more v h.0 c.args.digits.zeros c.args.digit c.if-digit-eq0.false c.requires.digit h.1,
  c.plus-size.ensures (h.0 * 10 ^ (c.args.digits.zeros + 1)) (c.raised.ensures h.0 h.2),
)
