use Rattle.std.proofs.Common.{◌∙◌, arith, w64}
use Rattle.std.proofs.lemmas.Nat.Bits.{bit_at-trailing_zeros}
use Rattle.word_arithmetic.proofs.Twos.{gcd_long}
use Rattle.word_arithmetic.proofs.divisors.long_gcd.Goals as goal

pub reduced-requires : goal.reduced-requires
reduced-requires c = let t = bit_at-trailing_zeros w64 c.args.b (omega arith) (omega (arith, c.ranges.b.fits)) in t.1

pub returns : goal.returns
returns c =
    gcd_long c.args.a c.args.b c.min-twos.result c.binary_gcd.result c.requires.left c.requires.right (omega (arith, c.ranges.a.fits)) (omega (arith, c.ranges.b.fits))
    c.min-twos.ensures (c.binary_gcd.ensures ∙ c.reduced.ensures)
