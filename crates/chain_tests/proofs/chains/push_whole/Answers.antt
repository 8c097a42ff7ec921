use Rattle.std.proofs.Common.{◌≡◌, ◌∙◌, ◌*◌, length, ap, pos, arith, rules, replicate, slice_set, to_z}
use Rattle.std.specs.Int.{w128}
use Rattle.std.proofs.lemmas.Int.{ints}
use Rattle.rational.specs.Rational.{whole}
use Rattle.chain_tests.proofs.Equations.{two_equations}
use Rattle.chain_tests.proofs.chains.push_whole.Goals as goal

pub start-requires-clause-problem : goal.start-requires-clause-problem
start-requires-clause-problem c =
    let n : length c.push-2.new.self.items ≡ 2 * 1 = search rules in
    let x : to_z w128 c.args.right.0 ≡ pos c.args.right.0 = omega (arith, ints) in
    let y : to_z w128 c.args.right.1 ≡ pos c.args.right.1 = omega (arith, ints) in
    two_equations c.of_rows-m.result 1 c.push-2.new.self.items c.set.new.self c.in_ok-r.r c.args.right.0 c.args.right.1 n c.of_rows-m.ensures
    (c.in_ok-r.ensures ∙ ap (replicate 2) (c.whole.ensures ∙ ap whole x)) (c.set.ensures ∙ ap (slice_set c.in_ok-r.r 1) (c.whole-2.ensures ∙ ap whole y))
