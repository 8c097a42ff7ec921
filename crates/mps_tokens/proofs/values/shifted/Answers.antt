use Rattle.std.proofs.Common.{◌≡◌, ◌*◌, ◌-◌, ◌^◌, sym, ap, ◌∙◌, arith, refl, ℕ}
use Rattle.rational.specs.Rational.{fraction}
use Rattle.word_arithmetic.specs.Signed.{signed}
use Rattle.mps_tokens.specs.Numbers.{fitted}
use Rattle.mps_tokens.proofs.PowerValues.{shift_up, shift_down, whole_fits, whole_past}
use Rattle.mps_tokens.proofs.values.shifted.Goals as goal

pub returns-then-up-down : goal.returns-then-up-down
returns-then-up-down c = c.lowered.ensures ∙ ap fitted (sym (shift_down c.args.negative c.args.top c.args.up c.args.down (omega arith)))

pub returns-in-Fits : goal.returns-in-Fits
returns-in-Fits c =
    let m = c.args.top * 10 ^ (c.args.up - c.args.down) in
    let h = c.in-Fits.ensures c.args.top (refl, c.requires.1) in
    let e : c.in-Fits.top ≡ m = h.0 in
    c.ratio.ensures ∙ sym (whole_fits c.args.negative c.in-Fits.top h.1) ∙ ap (λ (n : ℕ). fitted (fraction (signed c.args.negative n) 1)) e
    ∙ ap fitted (sym (shift_up c.args.negative c.args.top c.args.up c.args.down (omega arith)))

pub returns-in-Past : goal.returns-in-Past
returns-in-Past c =
    let m = c.args.top * 10 ^ (c.args.up - c.args.down) in
    let h = c.in-Past.ensures c.args.top (refl, c.requires.1) in
    sym (whole_past c.args.negative m h) ∙ ap fitted (sym (shift_up c.args.negative c.args.top c.args.up c.args.down (omega arith)))
