use Rattle.std.proofs.Common.{◌≡◌, ◌-◌, sym, ap, ◌∙◌}
use Rattle.rational.specs.Rational.{fraction}
use Rattle.word_arithmetic.specs.Signed.{signed}
use Rattle.mps_tokens.specs.Numbers.{fitted}
use Rattle.mps_tokens.proofs.PowerValues.{too_fine, lowered_twice, whole_some}
use Rattle.mps_tokens.proofs.values.lowered.Goals as goal

pub returns-then-power : goal.returns-then-power
returns-then-power c = sym (too_fine c.args.negative c.args.top c.args.power c.requires.0 c.requires.1 c.if-power.true)

pub quotient-requires : goal.quotient-requires
quotient-requires c =
    whole_some c.power_of_ten-2.result (c.args.power - c.min-first.result) c.whole-rest.result c.power_of_ten-2.ensures.value c.power_of_ten-2.ensures.fits c.whole-rest.ensures

pub returns : goal.returns
returns c =
    let number : c.in_ok-number.number ≡ fraction (signed c.args.negative c.args.top) c.power_of_ten.result = cc (c.in_ok-number.was, c.ratio.ensures) in
    c.quotient.ensures
    ∙ ap fitted (lowered_twice c.args.negative c.args.top c.args.power c.min-first.result c.power_of_ten.result c.power_of_ten-2.result c.in_ok-number.number c.whole-rest.result
    c.min-first.ensures c.power_of_ten.ensures.value c.power_of_ten-2.ensures.value c.power_of_ten-2.ensures.fits number c.whole-rest.ensures)
