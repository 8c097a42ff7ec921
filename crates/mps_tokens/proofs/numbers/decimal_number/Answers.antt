use Rattle.std.proofs.Common.{refl, sym, ◌∙◌, zero-le}
use Rattle.std.specs.Str.Parse.{digits_value}
use Rattle.mps_tokens.specs.Spelling.{without_point}
use Rattle.mps_tokens.proofs.NumberParts.{unmarked, bad_exponent}
use Rattle.mps_tokens.proofs.numbers.decimal_number.Goals as goal

pub returns-then-mark-body : goal.returns-then-mark-body
returns-then-mark-body c =
    let m = c.in-Some.ensures.value in
    let before = c.split.result.0.now in
    c.decimal.ensures (digits_value 10 (without_point before)) 0 m.1 (refl, zero-le)
    ∙ unmarked c.args.negative c.args.body.now before c.mark_place-mark.result c.in-Some.places m.2 c.mark_place-mark.ensures.place c.if-mark-body.true c.split.ensures.before m.0

pub returns-in_default-exponent : goal.returns-in_default-exponent
returns-in_default-exponent c =
    sym (bad_exponent c.args.negative c.args.body.now c.split.result.0.now c.split.result.1.now c.mark_place-mark.result c.mark_place-mark.ensures.place c.if-mark-body.false c.mark_place-mark.ensures.within
    c.split.ensures.before c.split.ensures.behind c.in_default-exponent.ensures.other)
