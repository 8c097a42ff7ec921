use Rattle.std.proofs.Common.{arith}
use Rattle.std.specs.Int.{w128}
use Rattle.std.proofs.lemmas.Nat.Bits.{bit_at-trailing_zeros}
use Rattle.word_arithmetic.proofs.Twos.{gcd_shifted}
use Rattle.word_arithmetic.proofs.divisors.wide_gcd.Goals as goal

pub wide_odd_gcd-requires-clause-left : goal.wide_odd_gcd-requires-clause-left
wide_odd_gcd-requires-clause-left c = let t = bit_at-trailing_zeros w128 c.args.a (omega arith) (omega (arith, c.ranges.a.fits)) in t.1

pub wide_odd_gcd-requires-clause-right : goal.wide_odd_gcd-requires-clause-right
wide_odd_gcd-requires-clause-right c = let t = bit_at-trailing_zeros w128 c.args.b (omega arith) (omega (arith, c.ranges.b.fits)) in t.1

pub returns : goal.returns
returns c =
    gcd_shifted w128 c.args.a c.args.b c.min-twos.result c.wide_odd_gcd.result c.requires.left c.requires.right (omega (arith, c.ranges.a.fits)) (omega (arith, c.ranges.b.fits))
    c.min-twos.ensures c.wide_odd_gcd.ensures
