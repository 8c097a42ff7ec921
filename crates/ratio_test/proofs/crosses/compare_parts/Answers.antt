use Rattle.std.specs.Prelude.{pos, ◌<ℤ◌}
use Rattle.std.proofs.Common.{arith}
use Rattle.std.proofs.lemmas.Int.{ints}
use Rattle.ratio_test.proofs.CrossProducts.{none_below, both_below, first_below, second_below}
use Rattle.ratio_test.proofs.crosses.compare_parts.Goals as goal

pub returns-in-true-true : goal.returns-in-true-true
returns-in-true-true c =
    let h : c.args.a.num <ℤ pos 0 = omega (arith, ints, c.in-true-true.is-0, c.num.ensures.value) in
    let k : c.args.b.num <ℤ pos 0 = omega (arith, ints, c.in-true-true.is-1, c.num-2.ensures.value) in
    both_below c.args.a c.args.t c.args.b c.args.s c.requires.t c.requires.s _ _ c.cross_product-left.ensures c.cross_product-right.ensures h k c.order.result c.order.ensures

pub returns-in-true-false : goal.returns-in-true-false
returns-in-true-false c =
    let h : c.args.a.num <ℤ pos 0 = omega (arith, ints, c.in-true-false.is-0, c.num.ensures.value) in
    let k : ¬ (c.args.b.num <ℤ pos 0) = omega (arith, ints, c.in-true-false.is-1, c.num-2.ensures.value) in
    first_below c.args.a c.args.t c.args.b c.args.s c.requires.t c.requires.s h k

pub returns-in-false-true : goal.returns-in-false-true
returns-in-false-true c =
    let h : ¬ (c.args.a.num <ℤ pos 0) = omega (arith, ints, c.in-false-true.is-0, c.num.ensures.value) in
    let k : c.args.b.num <ℤ pos 0 = omega (arith, ints, c.in-false-true.is-1, c.num-2.ensures.value) in
    second_below c.args.a c.args.t c.args.b c.args.s c.requires.t c.requires.s h k

pub returns-in-false-false : goal.returns-in-false-false
returns-in-false-false c =
    let h : ¬ (c.args.a.num <ℤ pos 0) = omega (arith, ints, c.in-false-false.is-0, c.num.ensures.value) in
    let k : ¬ (c.args.b.num <ℤ pos 0) = omega (arith, ints, c.in-false-false.is-1, c.num-2.ensures.value) in
    none_below c.args.a c.args.t c.args.b c.args.s c.requires.t c.requires.s _ _ c.cross_product-left.ensures c.cross_product-right.ensures h k c.order-in-false-false.result c.order-in-false-false.ensures
