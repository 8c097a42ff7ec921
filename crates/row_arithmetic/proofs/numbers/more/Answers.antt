use Rattle.std.proofs.Common.{◌≡◌, ap, ◌∙◌, ◌+ℤ◌, ◌*ℤ◌, rules, FitsSigned, to_z, of_z}
use Rattle.std.specs.Int.{w128}
use Rattle.std.proofs.lemmas.Int.{to_z-of_z}
use Rattle.row_arithmetic.proofs.Products.{some_is}
use Rattle.row_arithmetic.proofs.numbers.more.Goals as goal

pub returns : goal.returns
returns c =
    let t = c.args.t in
    let x = c.args.x in
    let y = c.args.y in
    let product = c.in_ok-product.product in
    let ft : FitsSigned w128 t = search rules in
    let fx : FitsSigned w128 x = search rules in
    let fy : FitsSigned w128 y = search rules in
    let fp : FitsSigned w128 product = search rules in
    let product_is : to_z w128 (of_z w128 product) ≡ x *ℤ y =
    to_z-of_z w128 product fp ∙ c.in_ok-product.ensures ∙ ap (λ z. z *ℤ to_z w128 (of_z w128 y)) (to_z-of_z w128 x fx) ∙ ap (λ z. x *ℤ z) (to_z-of_z w128 y fy) in
    some_is c.checked_add.result _ _ _ c.checked_add.ensures (ap (λ z. z +ℤ to_z w128 (of_z w128 product)) (to_z-of_z w128 t ft) ∙ ap (λ z. t +ℤ z) product_is)
