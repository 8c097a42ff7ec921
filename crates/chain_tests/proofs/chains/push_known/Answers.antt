use Rattle.std.proofs.Common.{◌≡◌, ◌∙◌, ap, pos, arith, replicate, slice_set, to_z}
use Rattle.std.specs.Int.{w128}
use Rattle.std.proofs.lemmas.Int.{ints}
use Rattle.rational.specs.Rational.{whole}
use Rattle.chain_tests.proofs.Equations.{two_equations}
use Rattle.chain_tests.proofs.chains.push_known.Goals as goal

pub feasible-requires-clause-problem : goal.feasible-requires-clause-problem
feasible-requires-clause-problem c =
    let x : to_z w128 c.args.right.0 ≡ pos c.args.right.0 = omega (arith, ints) in
    let y : to_z w128 c.args.right.1 ≡ pos c.args.right.1 = omega (arith, ints) in
    two_equations c.of_rows-m.result c.args.columns c.args.entries.items c.set.new.self c.in_ok-r.r c.args.right.0 c.args.right.1 c.requires.entries c.of_rows-m.ensures
    (c.in_ok-r.ensures ∙ ap (replicate 2) (c.whole.ensures ∙ ap whole x)) (c.set.ensures ∙ ap (slice_set c.in_ok-r.r 1) (c.whole-2.ensures ∙ ap whole y))
