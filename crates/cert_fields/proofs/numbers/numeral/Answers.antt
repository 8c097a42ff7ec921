use Rattle.std.proofs.Common.{arith}
use Rattle.std.proofs.lemmas.Grind.{common_steps}
use Rattle.cert_fields.proofs.Digits.{capped_more}
use Rattle.cert_fields.proofs.numbers.numeral.Goals as goal

pub loop-b-preserved : goal.loop-b-preserved
loop-b-preserved c =
    (grind (arith, common_steps), capped_more c.args.bytes.now c.loop-b.b-index _ _ c.loop-b-test.true (grind (arith, common_steps)) c.loop-b.invariant.1 c.with_digit-value.ensures)
