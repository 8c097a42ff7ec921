use Rattle.std.proofs.Common.{◌≡◌, ap, ◌∙◌, ◌*ℤ◌, ◌-ℤ◌, rules, FitsSigned, to_z, of_z}
use Rattle.std.specs.Int.{w128}
use Rattle.std.proofs.lemmas.Int.{to_z-of_z}
use Rattle.row_arithmetic.proofs.Products.{some_is}
use Rattle.row_arithmetic.proofs.numbers.less.Goals as goal

pub returns : goal.returns
returns c =
    let p = c.args.p in
    let x = c.args.x in
    let f = c.args.f in
    let y = c.args.y in
    let left = c.in_ok-left.left in
    let right = c.in_ok-right.right in
    let fp : FitsSigned w128 p = search rules in
    let fx : FitsSigned w128 x = search rules in
    let ff : FitsSigned w128 f = search rules in
    let fy : FitsSigned w128 y = search rules in
    let fl : FitsSigned w128 left = search rules in
    let fr : FitsSigned w128 right = search rules in
    let left_is : to_z w128 (of_z w128 left) ≡ p *ℤ x =
    to_z-of_z w128 left fl ∙ c.in_ok-left.ensures ∙ ap (λ z. z *ℤ to_z w128 (of_z w128 x)) (to_z-of_z w128 p fp) ∙ ap (λ z. p *ℤ z) (to_z-of_z w128 x fx) in
    let right_is : to_z w128 (of_z w128 right) ≡ f *ℤ y =
    to_z-of_z w128 right fr ∙ c.in_ok-right.ensures ∙ ap (λ z. z *ℤ to_z w128 (of_z w128 y)) (to_z-of_z w128 f ff) ∙ ap (λ z. f *ℤ z) (to_z-of_z w128 y fy) in
    some_is c.checked_sub.result _ _ _ c.checked_sub.ensures (ap (λ z. z -ℤ to_z w128 (of_z w128 right)) left_is ∙ ap (λ z. p *ℤ x -ℤ z) right_is)
