use Rattle.std.proofs.Common.{Some, rules, FitsSigned, refl, sym, ap, ◌∙◌}
use Rattle.std.proofs.Math.Nat.{dvd_trans}
use Rattle.std.specs.Int.{w128}
use Rattle.std.proofs.lemmas.Int.{to_z-of_z}
use Rattle.rational.specs.Divisors.{gcd_of}
use Rattle.rational.specs.Rational.{◌+ℚ◌}
use Rattle.frac_core.specs.Parts.{PartsOf}
use Rattle.frac_core.proofs.Held.{PartsOf-cross, divides_left, divides_right}
use Rattle.frac_core.proofs.arithmetic.lowest_sum.Goals as goal
use Rattle.frac_core.proofs.arithmetic.lowest_sum.Goals.{After-checked_mul-den}

pub quotient-num-requires-clause-divides : goal.quotient-num-requires-clause-divides
quotient-num-requires-clause-divides c = divides_left c.gcd-still_shared.result c.unsigned_abs.result c.args.shared _ c.gcd-still_shared.ensures.value c.unsigned_abs.ensures.value

pub size_quotient-requires-clause-divides : goal.size_quotient-requires-clause-divides
size_quotient-requires-clause-divides c =
    let shared = divides_right c.gcd-still_shared.result c.unsigned_abs.result c.args.shared c.args.shared c.gcd-still_shared.ensures.value refl in
    dvd_trans c.gcd-still_shared.result shared (divides_right c.args.shared c.args.p.den c.args.q.den c.bottom.result c.requires.shared (sym c.bottom.ensures.value))

parts : (c : After-checked_mul-den) → PartsOf (c.args.p +ℚ c.args.q) (Some c.quotient-num.result) c.checked_mul-den.result
parts c =
    let ft = c.ranges.top in
    let a = simp to_z-of_z at c.unsigned_abs.ensures.value in
    let eu = simp to_z-of_z at c.quotient-num.ensures in
    PartsOf-cross c.args.p c.args.q c.args.shared c.args.left c.gcd-still_shared.result c.args.top c.quotient-num.result c.checked_mul-den.result
    c.requires.shared c.requires.left c.requires.top (c.gcd-still_shared.ensures.value ∙ ap (λ n. gcd_of n c.args.shared) a) eu (rw (c.size_quotient.ensures, c.bottom.ensures.value) at c.checked_mul-den.ensures)

pub from_lowest-requires : goal.from_lowest-requires
from_lowest-requires c =
    let f : FitsSigned w128 c.quotient-num.result = search rules in
    rw (to_z-of_z w128 c.quotient-num.result f) (c.args.p +ℚ c.args.q, parts (goal.at.from_lowest-requires c).After-checked_mul-den)

pub returns : goal.returns
returns c =
    let f : FitsSigned w128 c.quotient-num.result = search rules in
    let e = rw (to_z-of_z w128 c.quotient-num.result f) at c.from_lowest.ensures in
    e (c.args.p +ℚ c.args.q) (parts (goal.at.returns c).After-checked_mul-den)
