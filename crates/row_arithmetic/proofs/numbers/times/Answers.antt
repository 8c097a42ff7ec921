use Rattle.std.proofs.Common.{◌*ℤ◌, FitsSigned, refl, rules}
use Rattle.std.specs.Int.{w128}
use Rattle.std.proofs.lemmas.Int.{to_z-of_z}
use Rattle.row_arithmetic.proofs.Products.{some_is}
use Rattle.row_arithmetic.proofs.numbers.times.Goals as goal

pub returns : goal.returns
returns c =
    let fx : FitsSigned w128 c.args.x = search rules in
    let fy : FitsSigned w128 c.args.y = search rules in
    some_is c.times.result _ _ (c.args.x *ℤ c.args.y) c.times.ensures (rw (to_z-of_z w128 c.args.x fx, to_z-of_z w128 c.args.y fy) refl)
