use Rattle.std.proofs.Common.{◌∙◌}
use Rattle.mps_tokens.proofs.NumberParts.{slashed, unslashed}
use Rattle.mps_tokens.proofs.numbers.number.Goals as goal

pub returns-then-slash-body : goal.returns-then-slash-body
returns-then-slash-body c =
    c.decimal_number.ensures
    ∙ unslashed c.args.bytes.now c.split_sign-negative.result.1.now c.split_sign-negative.result.0 c.place_of-slash.result c.split_sign-negative.ensures.negative c.split_sign-negative.ensures.rest
    c.place_of-slash.ensures.place c.if-slash-body.true

pub returns : goal.returns
returns c =
    c.fraction_number.ensures
    ∙ slashed c.args.bytes.now c.split_sign-negative.result.1.now c.split.result.0.now c.split.result.1.now c.split_sign-negative.result.0 c.place_of-slash.result
    c.split_sign-negative.ensures.negative c.split_sign-negative.ensures.rest c.place_of-slash.ensures.place c.if-slash-body.false c.place_of-slash.ensures.within c.split.ensures.before c.split.ensures.behind
