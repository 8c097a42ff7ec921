use Rattle.std.proofs.Common.{◌^◌, ◌*◌, ◌+◌, ◌%◌, arith, subst}
use Rattle.std.specs.Int.{◌∣◌}
use Rattle.std.proofs.lemmas.Nat.{and_mask}
use Rattle.word_arithmetic.proofs.ModularInverses.{newton, of_low}
use Rattle.word_arithmetic.proofs.inverses.wide_negative_inverse.Goals as goal

pub negative_inverse-inverse-requires : goal.negative_inverse-inverse-requires
negative_inverse-inverse-requires c = omega (arith, and_mask c.args.odd 64, c.requires)

pub returns : goal.returns
returns c =
    let o = c.args.odd in
    let x = c.negative_inverse-inverse.result in
    let low : 2 ^ 64 ∣ (o % 2 ^ 64) * x + 1 = subst (λ t. 2 ^ 64 ∣ t * x + 1) (and_mask o 64) c.negative_inverse-inverse.ensures in
    newton 128 o x 64 0 (omega arith) (of_low o x low)
