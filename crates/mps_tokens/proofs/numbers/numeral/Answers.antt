use Rattle.std.proofs.Common.{◌<◌, length, arith}
use Rattle.std.proofs.lemmas.Grind.{common_steps}
use Rattle.std.specs.Str.Parse.{digits_value}
use Rattle.mps_tokens.proofs.NumberParts.{zeros_back, numeral_yes}
use Rattle.mps_tokens.proofs.numbers.numeral.Goals as goal

pub returns-clause-value : goal.returns-clause-value
returns-clause-value c =
    let some : 0 < length c.args.bytes.now = grind (arith, common_steps) in (
      numeral_yes c.args.bytes.now some c.in_ok-digits.ensures.digits,
      zeros_back (digits_value 10 c.args.bytes.now) c.in_ok-digits.digits c.raised.result c.in_ok-digits.ensures.value c.raised.ensures,
    )
