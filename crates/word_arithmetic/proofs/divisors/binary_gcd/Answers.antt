use Rattle.std.proofs.Common.{arith, w64, sym, ap, ◌∙◌}
use Rattle.rational.specs.Divisors.{gcd_of, gcd_comm, gcd-zero}
use Rattle.std.proofs.lemmas.Nat.Bits.{bit_at-trailing_zeros}
use Rattle.word_arithmetic.proofs.Twos.{gcd_shifted}
use Rattle.word_arithmetic.proofs.divisors.binary_gcd.Goals as goal

pub returns-then-a-eq0 : goal.returns-then-a-eq0
returns-then-a-eq0 c = sym (gcd-zero c.args.b) ∙ gcd_comm c.args.b 0 ∙ ap (λ t. gcd_of t c.args.b) (sym c.if-a-eq0.true)

pub returns-then-b-eq0 : goal.returns-then-b-eq0
returns-then-b-eq0 c = sym (gcd-zero c.args.a) ∙ ap (gcd_of c.args.a) (sym c.if-b-eq0.true)

pub odd_gcd-requires-clause-left : goal.odd_gcd-requires-clause-left
odd_gcd-requires-clause-left c = let t = bit_at-trailing_zeros w64 c.args.a (omega arith) (omega (arith, c.ranges.a.fits)) in t.1

pub odd_gcd-requires-clause-right : goal.odd_gcd-requires-clause-right
odd_gcd-requires-clause-right c = let t = bit_at-trailing_zeros w64 c.args.b (omega arith) (omega (arith, c.ranges.b.fits)) in t.1

pub returns : goal.returns
returns c =
    gcd_shifted w64 c.args.a c.args.b c.min-twos.result c.odd_gcd.result c.if-a-eq0.false c.if-b-eq0.false (omega (arith, c.ranges.a.fits)) (omega (arith, c.ranges.b.fits))
    c.min-twos.ensures c.odd_gcd.ensures
