use Rattle.std.proofs.Common.{sym}
use Rattle.cert_fields.proofs.NumberLemmas.{zero_number, with_slash, without_slash}
use Rattle.cert_fields.proofs.numbers.number.Goals as goal

pub returns-then-is_zero_text : goal.returns-then-is_zero_text
returns-then-is_zero_text c = zero_number c.args.bytes.now c.whole.result (sym c.if-is_zero_text.ensures) c.whole.ensures

pub returns-in-Some : goal.returns-in-Some
returns-in-Some c =
    with_slash c.args.bytes.now _ c.in-Some.top.now c.in-Some.bottom.now _ c.ratio.result (sym c.if-is_zero_text.ensures) c.split_minus-negative.ensures.negative c.split_minus-negative.ensures.rest c.in-Some.ensures.there c.in-Some.ensures.before c.in-Some.ensures.behind c.ratio.ensures

pub returns-in-None : goal.returns-in-None
returns-in-None c =
    without_slash c.args.bytes.now _ _ c.whole-in-None.result (sym c.if-is_zero_text.ensures) c.split_minus-negative.ensures.negative c.split_minus-negative.ensures.rest c.in-None.ensures.absent c.in-None.ensures.alone c.whole-in-None.ensures
