use Rattle.std.proofs.Common.{◌+◌, ◌<◌, length, arith}
use Rattle.std.proofs.lemmas.Grind.{common_steps}
use Rattle.std.specs.Str.Parse.{digits_value_after}
use Rattle.mps_tokens.proofs.NumberParts.{mantissa_is}
use Rattle.mps_tokens.proofs.numbers.mantissa.Goals as goal
use Rattle.mps_tokens.proofs.numbers.mantissa.Goals.{else-is_empty-via-then-is_empty+else-is_empty-2, else-is_empty-via-else-is_empty}

pub returns-clause-value : goal.returns-clause-value
returns-clause-value c =
    let whole = c.split.result.0.now in
    let part = c.split.result.1.now in
    let some : 0 < length whole + length part =
    elim c.else-is_empty.branch [
      | else-is_empty-via-then-is_empty+else-is_empty-2 w ↦ grind (arith, common_steps)
      | else-is_empty-via-else-is_empty w ↦ grind (arith, common_steps)
    ] in
    mantissa_is c.args.bytes.now whole part c.place_of.result c.in_ok-digits.digits c.place_of.ensures.place c.split.ensures.before c.split.ensures.behind some
    c.in_ok-digits_of.ensures.digits c.in_ok-digits.ensures.digits
    (c.in_ok-digits.ensures.value (digits_value_after 10 0 whole) c.in_ok-digits_of.ensures.value)
