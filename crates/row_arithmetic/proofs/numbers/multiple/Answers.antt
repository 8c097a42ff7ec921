use Rattle.std.proofs.Common.{sym, ap, ◌∙◌, pos, ◌*ℤ◌, rules, FitsSigned, to_z, of_z}
use Rattle.std.specs.Prelude.{◌<ℤ◌, unsigned_abs}
use Rattle.std.specs.Int.{w128}
use Rattle.std.proofs.lemmas.Int.{to_z-of_z}
use Rattle.std.proofs.lemmas.Option.{IfSome_then}
use Rattle.rational.specs.Divisors.{gcd_of}
use Rattle.row_arithmetic.proofs.Divisors.{common_one, common_product, positive_part, positive_product}
use Rattle.row_arithmetic.proofs.numbers.multiple.Goals as goal

pub returns-clause-positive : goal.returns-clause-positive
returns-clause-positive c =
    let x = c.args.x in
    let y = c.args.y in
    let part = c.lowest-part.result.0 in
    let fx : FitsSigned w128 x = search rules in
    let fy : FitsSigned w128 y = search rules in
    let fp : FitsSigned w128 part = search rules in
    let part_pos : pos 0 <ℤ part = positive_part part x c.lowest-part.ensures.0 c.lowest-part.ensures.1 c.requires.x (c.lowest-part.ensures.2 ∙ to_z-of_z w128 x fx) in
    IfSome_then c.times.result c.times.ensures
    (λ t e. positive_product part y t part_pos c.requires.y (e ∙ ap (λ z. z *ℤ to_z w128 (of_z w128 y)) (to_z-of_z w128 part fp) ∙ ap (λ z. part *ℤ z) (to_z-of_z w128 y fy)))

pub returns-clause-least : goal.returns-clause-least
returns-clause-least c =
    let x = c.args.x in
    let y = c.args.y in
    let part = c.lowest-part.result.0 in
    let fx : FitsSigned w128 x = search rules in
    let fy : FitsSigned w128 y = search rules in
    let fp : FitsSigned w128 part = search rules in
    IfSome_then c.times.result c.times.ensures
    (λ t e. common_product part x y t c.lowest-part.ensures.0 _ (c.lowest-part.ensures.2 ∙ to_z-of_z w128 x fx)
    (e ∙ ap (λ z. z *ℤ to_z w128 (of_z w128 y)) (to_z-of_z w128 part fp) ∙ ap (λ z. part *ℤ z) (to_z-of_z w128 y fy))
    (c.lowest-part.ensures.4 ∙ ap (λ z. gcd_of (unsigned_abs z) (unsigned_abs (to_z w128 (of_z w128 x)))) (to_z-of_z w128 y fy) ∙ ap (λ z. gcd_of (unsigned_abs y) (unsigned_abs z)) (to_z-of_z w128 x fx)))

pub returns-then-y-eq1-clause-least : goal.returns-then-y-eq1-clause-least
returns-then-y-eq1-clause-least c =
    let x = c.args.x in
    let y = c.args.y in
    let fx : FitsSigned w128 x = search rules in
    let fy : FitsSigned w128 y = search rules in
    ap (λ z. z *ℤ pos (gcd_of (unsigned_abs y) (unsigned_abs x))) (to_z-of_z w128 x fx)
    ∙ common_one x y (sym (to_z-of_z w128 y fy) ∙ ap (to_z w128) c.if-y-eq1.true)
