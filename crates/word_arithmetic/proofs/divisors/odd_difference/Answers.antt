use Rattle.std.proofs.Common.{◌/◌, ◌^◌, refl, w64}
use Rattle.std.specs.Prelude.{min}
use Rattle.std.specs.Int.{w128, trailing_zeros}
use Rattle.word_arithmetic.proofs.Differences.{Keeps, whole_keeps, low_keeps, low_difference}
use Rattle.word_arithmetic.proofs.divisors.odd_difference.Goals as goal

whole : (c : goal.Then-low-eq0) → let d = c.abs_diff-difference.result in
    Keeps c.args.x c.args.y (d / 2 ^ trailing_zeros w128 d) (min c.args.x c.args.y)
whole c =
    whole_keeps c.args.x c.args.y c.abs_diff-difference.result (min c.args.x c.args.y) c.abs_diff-difference.type_inv
    c.requires.left c.requires.right c.requires.differ c.abs_diff-difference.ensures refl

low : (c : goal.Else-low-eq0) → let d = c.abs_diff-difference.result in
    Keeps c.args.x c.args.y (d / 2 ^ trailing_zeros w64 (low_difference c.args.x c.args.y)) (min c.args.x c.args.y)
low c =
    low_keeps c.args.x c.args.y c.abs_diff-difference.result (min c.args.x c.args.y) c.if-low-eq0.false
    c.requires.left c.requires.right c.abs_diff-difference.ensures refl

pub returns-then-low-eq0-clause-odd : goal.returns-then-low-eq0-clause-odd
returns-then-low-eq0-clause-odd c = (whole c).0

pub returns-then-low-eq0-clause-divisors : goal.returns-then-low-eq0-clause-divisors
returns-then-low-eq0-clause-divisors c = (whole c).2

pub returns-else-low-eq0-clause-odd : goal.returns-else-low-eq0-clause-odd
returns-else-low-eq0-clause-odd c = (low c).0

pub returns-else-low-eq0-clause-divisors : goal.returns-else-low-eq0-clause-divisors
returns-else-low-eq0-clause-divisors c = (low c).2
