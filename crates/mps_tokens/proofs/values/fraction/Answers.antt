use Rattle.std.proofs.Common.{◌≢◌, ◌≤◌, ◌∙◌, arith}
use Rattle.frac_core.specs.Parts.{max_part}
use Rattle.mps_tokens.proofs.DecimalValues.{capped_is, capped_past}
use Rattle.mps_tokens.proofs.NumberParts.{fraction_small, top_past, bottom_past}
use Rattle.mps_tokens.proofs.values.fraction.Goals as goal

pub returns-in_default : goal.returns-in_default
returns-in_default c = λ p q h k. bottom_past c.args.negative p q (capped_past c.args.bottom q c.in_default.not-Fits k)

pub returns-in_default-top : goal.returns-in_default-top
returns-in_default-top c = λ p q h k.
    let bottom = capped_is c.args.bottom c.in-Fits.bottom q c.in-Fits.is k in
    top_past c.args.negative p q (λ z. c.if-bottom-eq0.false (bottom.0 ∙ z)) (capped_past c.args.top p c.in_default-top.not-Fits h)

pub returns : goal.returns
returns c = λ p q h k.
    let bottom = capped_is c.args.bottom c.in-Fits.bottom q c.in-Fits.is k in
    let top = capped_is c.args.top c.in-Fits-top.top p c.in-Fits-top.is h in
    let some : q ≢ 0 = λ z. c.if-bottom-eq0.false (bottom.0 ∙ z) in
    let p_fits : p ≤ max_part = omega (arith, top.0, top.1) in
    let q_fits : q ≤ max_part = omega (arith, bottom.0, bottom.1) in
    rw (c.ratio.ensures, top.0, bottom.0) (fraction_small c.args.negative p q some p_fits q_fits)
