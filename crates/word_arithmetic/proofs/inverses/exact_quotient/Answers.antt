use Rattle.std.proofs.Common.{◌^◌, arith}
use Rattle.std.specs.Int.{w128, trailing_zeros}
use Rattle.word_arithmetic.proofs.Differences.{lowest_times}
use Rattle.word_arithmetic.proofs.ModularInverses.{exact}
use Rattle.word_arithmetic.proofs.inverses.exact_quotient.Goals as goal

pub wide_negative_inverse-inverse-requires : goal.wide_negative_inverse-inverse-requires
wide_negative_inverse-inverse-requires c = let t = lowest_times w128 c.args.divisor (omega (arith, c.requires.positive)) (omega (arith, c.ranges.divisor.fits)) in t.1.odd

pub returns : goal.returns
returns c =
    let t = lowest_times w128 c.args.divisor (omega (arith, c.requires.positive)) (omega (arith, c.ranges.divisor.fits)) in
    exact (2 ^ 128) c.args.n c.args.divisor (trailing_zeros w128 c.args.divisor) c.wide_negative_inverse-inverse.result c.wrapping_neg.result
    c.requires.positive c.requires.divides (omega (arith, c.ranges.n.fits)) c.wrapping_neg.type_inv t.1 c.wide_negative_inverse-inverse.ensures c.wrapping_neg.ensures
