use Rattle.std.proofs.Common.{◌≡◌, ◌+◌, ◌-◌, ◌*◌, ◌≤◌, ap, ◌∙◌}
use Rattle.std.proofs.lemmas.Int.{to_z-of_z}
use Rattle.word_arithmetic.proofs.SignedSums.{sum_fits, at_most, less_than, same_sign, first_larger, second_larger}
use Rattle.word_arithmetic.proofs.signs.signed_sum.Goals as goal

pub plus-requires : goal.plus-requires
plus-requires c =
    sum_fits c.unsigned_abs.result c.args.x c.unsigned_abs-2.result c.args.y c.product-left.result c.product-right.result
    c.unsigned_abs.ensures.bound c.requires.left c.unsigned_abs-2.ensures.bound c.requires.right c.product-left.ensures c.product-right.ensures

pub returns-then-same : goal.returns-then-same
returns-then-same c =
    let fa = c.ranges.a in let fb = c.ranges.b in
    let ea = simp to_z-of_z at c.unsigned_abs.ensures.value in
    let eb = simp to_z-of_z at c.unsigned_abs-2.ensures.value in
    let h = simp to_z-of_z at c.if-same.true in
    let sum : c.plus.result ≡ c.unsigned_abs.result * c.args.x + c.unsigned_abs-2.result * c.args.y
    = c.plus.ensures ∙ ap (λ t. t + c.product-right.result) c.product-left.ensures ∙ ap (λ t. c.unsigned_abs.result * c.args.x + t) c.product-right.ensures in
    simp to_z-of_z (same_sign c.args.a c.args.b c.args.x c.args.y c.unsigned_abs.result c.unsigned_abs-2.result c.plus.result h ea eb sum)

pub returns-then-is_below : goal.returns-then-is_below
returns-then-is_below c =
    let fa = c.ranges.a in let fb = c.ranges.b in
    let ea = simp to_z-of_z at c.unsigned_abs.ensures.value in
    let eb = simp to_z-of_z at c.unsigned_abs-2.ensures.value in
    let h = simp to_z-of_z at c.if-same.false in
    let less : c.unsigned_abs.result * c.args.x ≤ c.unsigned_abs-2.result * c.args.y = less_than c.is_below.result c.product-left.result c.product-right.result _ _ c.is_below.ensures c.if-is_below.true c.product-left.ensures c.product-right.ensures in
    let rest : c.minus.result ≡ c.unsigned_abs-2.result * c.args.y - c.unsigned_abs.result * c.args.x
    = c.minus.ensures ∙ ap (λ t. t - c.product-left.result) c.product-right.ensures ∙ ap (λ t. c.unsigned_abs-2.result * c.args.y - t) c.product-left.ensures in
    simp to_z-of_z (second_larger c.args.a c.args.b c.args.x c.args.y c.unsigned_abs.result c.unsigned_abs-2.result c.minus.result h ea eb less rest)

pub returns-else-is_below : goal.returns-else-is_below
returns-else-is_below c =
    let fa = c.ranges.a in let fb = c.ranges.b in
    let ea = simp to_z-of_z at c.unsigned_abs.ensures.value in
    let eb = simp to_z-of_z at c.unsigned_abs-2.ensures.value in
    let h = simp to_z-of_z at c.if-same.false in
    let most : c.unsigned_abs-2.result * c.args.y ≤ c.unsigned_abs.result * c.args.x = at_most c.is_below.result c.product-left.result c.product-right.result _ _ c.is_below.ensures c.if-is_below.false c.product-left.ensures c.product-right.ensures in
    let rest : c.minus-else-is_below.result ≡ c.unsigned_abs.result * c.args.x - c.unsigned_abs-2.result * c.args.y
    = c.minus-else-is_below.ensures ∙ ap (λ t. t - c.product-right.result) c.product-left.ensures ∙ ap (λ t. c.unsigned_abs.result * c.args.x - t) c.product-right.ensures in
    simp to_z-of_z (first_larger c.args.a c.args.b c.args.x c.args.y c.unsigned_abs.result c.unsigned_abs-2.result c.minus-else-is_below.result h ea eb most rest)
