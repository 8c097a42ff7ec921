use Rattle.std.proofs.Common.{◌≡◌, ◌∙◌, ◌*◌, length, ap, pos, arith, rules, replicate, slice_set, to_z}
use Rattle.std.specs.Int.{w128}
use Rattle.std.proofs.lemmas.Int.{ints}
use Rattle.rational.specs.Rational.{whole}
use Rattle.chain_tests.proofs.Equations.{two_equations}
use Rattle.chain_tests.proofs.bases.told.Goals as goal

pub bases-requires-clause-problem : goal.bases-requires-clause-problem
bases-requires-clause-problem c =
    let n : length c.push-4.new.self.items ≡ 2 * 2 = search rules in
    let x : to_z w128 c.args.x ≡ pos c.args.x = omega (arith, ints) in
    let y : to_z w128 c.args.y ≡ pos c.args.y = omega (arith, ints) in
    two_equations c.of_rows-m.result 2 c.push-4.new.self.items c.set.new.self c.in_ok-r.r c.args.x c.args.y n c.of_rows-m.ensures
    (c.in_ok-r.ensures ∙ ap (replicate 2) (c.whole.ensures ∙ ap whole x)) (c.set.ensures ∙ ap (slice_set c.in_ok-r.r 1) (c.whole-2.ensures ∙ ap whole y))
