use Rattle.std.proofs.Common.{arith}
use Rattle.std.proofs.lemmas.Grind.{common_steps}
use Rattle.mps_tokens.proofs.ReadDigits.{read_more, read_all}
use Rattle.mps_tokens.proofs.digits.with_digits.Goals as goal

pub loop-b-preserved : goal.loop-b-preserved
loop-b-preserved c =
    let h = c.loop-b.invariant in (
      grind (arith, common_steps),
      omega (arith, c.with_digit-digits.ensures.zeros),
      λ v d. read_more v c.loop-b.b-index c.args.bytes.now c.loop-b.digits c.with_digit-digits.result c.loop-b-test.true (grind (arith, common_steps)) (h.2 v d) c.with_digit-digits.ensures.value,
    )

pub returns-clause-value : goal.returns-clause-value
returns-clause-value c = λ v d. read_all v c.loop-b.b-index c.args.bytes.now c.loop-b.digits c.loop-b-test.false (c.loop-b.invariant.2 v d)
