use Rattle.std.proofs.Common.{◌≢◌, ◌^◌, ◌<◌, ◌≤◌, sym, ◌∙◌, arith}
use Rattle.frac_core.specs.Parts.{max_part}
use Rattle.mps_tokens.proofs.DecimalValues.{capped_is, capped_past, short_value, past_value, zero_value, far, below_value, above_value}
use Rattle.mps_tokens.proofs.values.decimal.Goals as goal

pub returns-in_default : goal.returns-in_default
returns-in_default c = λ v e h k.
    sym (past_value c.args.negative v h.0 c.args.digits.zeros _ _ (capped_past c.args.digits.size h.0 c.in_default.not-Fits h.2) h.1)

pub returns-then-top-eq0 : goal.returns-then-top-eq0
returns-then-top-eq0 c = λ v e h k.
    let top = (capped_is c.args.digits.size c.in-Fits.top h.0 c.in-Fits.is h.2).0 in
    rw c.whole.ensures (sym (zero_value c.args.negative v h.0 c.args.digits.zeros _ _ (sym top ∙ c.if-top-eq0.true) h.1))

pub returns-in_default-size : goal.returns-in_default-size
returns-in_default-size c = λ v e h k.
    let top = capped_is c.args.digits.size c.in-Fits.top h.0 c.in-Fits.is h.2 in
    let some : h.0 ≢ 0 = λ z. c.if-top-eq0.false (top.0 ∙ z) in
    let small : h.0 ≤ max_part = omega (arith, top.0, top.1) in
    let run_fits : c.args.digits.zeros < 2 ^ 64 = omega arith in
    let places_fit : c.args.places < 2 ^ 64 = omega arith in
    sym (short_value c.args.negative v h.0 c.args.digits.zeros _ _ some small h.1
    ∙ far c.args.negative c.args.exponent.negative h.0 c.args.digits.zeros c.args.places e some small run_fits places_fit (capped_past c.args.exponent.size e c.in_default-size.not-Fits k))

pub returns-then-exponent : goal.returns-then-exponent
returns-then-exponent c = λ v e h k.
    let top = capped_is c.args.digits.size c.in-Fits.top h.0 c.in-Fits.is h.2 in
    let some : h.0 ≢ 0 = λ z. c.if-top-eq0.false (top.0 ∙ z) in
    let small : h.0 ≤ max_part = omega (arith, top.0, top.1) in
    let size = capped_is c.args.exponent.size c.in-Fits-size.size e c.in-Fits-size.is k in
    c.shifted.ensures
    ∙ below_value c.args.negative c.args.exponent.negative v h.0 c.args.digits.zeros c.args.places e c.in-Fits.top c.in-Fits-size.size c.if-exponent.true top.0 size.0 some small h.1

pub returns-else-exponent : goal.returns-else-exponent
returns-else-exponent c = λ v e h k.
    let top = capped_is c.args.digits.size c.in-Fits.top h.0 c.in-Fits.is h.2 in
    let some : h.0 ≢ 0 = λ z. c.if-top-eq0.false (top.0 ∙ z) in
    let small : h.0 ≤ max_part = omega (arith, top.0, top.1) in
    let size = capped_is c.args.exponent.size c.in-Fits-size.size e c.in-Fits-size.is k in
    c.shifted-else-exponent.ensures
    ∙ above_value c.args.negative c.args.exponent.negative v h.0 c.args.digits.zeros c.args.places e c.in-Fits.top c.in-Fits-size.size c.if-exponent.false top.0 size.0 some small h.1
