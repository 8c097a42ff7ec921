use Rattle.std.proofs.Common.{◌≡◌, ◌^◌, ◌*◌, ◌%◌, ◌-◌, ap, arith, refl, ◌∙◌}
use Rattle.std.specs.Prelude.{bit_and}
use Rattle.std.proofs.lemmas.Nat.{and_mask}
use Rattle.rational.specs.Divisors.{gcd_of}
use Rattle.word_arithmetic.proofs.ModularInverses.{ends_in, reduced_gcd}
use Rattle.word_arithmetic.proofs.inverses.reduced.Goals as goal

pub returns : goal.returns
returns c =
    let n = c.args.n in
    let o = c.args.odd in
    let low = bit_and n (2 ^ 64 - 1) in
    let p = c.wrapping_neg.result in
    let f = (low * p) % 2 ^ 64 in
    let is_low : low ≡ n % 2 ^ 64 = and_mask n 64 in
    let ends : (f * o) % 2 ^ 64 ≡ n % 2 ^ 64 = ends_in low o c.negative_inverse.result p (omega arith) c.negative_inverse.ensures c.wrapping_neg.ensures ∙ is_low in
    ap (λ t. gcd_of t o) c.abs_diff.ensures ∙ reduced_gcd n (f * o) f o c.requires refl ends
