use Rattle.std.proofs.Common.{arith, sym, ◌∙◌}
use Rattle.chain_tests.proofs.Exchanges.{start_basis, start_pivot, next_basis, next_pivot}
use Rattle.chain_tests.proofs.bases.bases.Goals as goal

pub exchanged-requires-clause-basis : goal.exchanged-requires-clause-basis
exchanged-requires-clause-basis c = start_basis c.args.m.now c.args.r.now c.requires.problem c.requires.rows c.in_ok-basis.basis c.in_ok-basis.ensures

pub exchanged-requires-clause-pivot : goal.exchanged-requires-clause-pivot
exchanged-requires-clause-pivot c =
    start_pivot c.args.m.now c.args.r.now c.requires.problem c.requires.rows c.in_ok-basis.basis c.in_ok-basis.ensures 0 c.at.result (omega arith) c.at.ensures
    (sym c.is_zero.ensures ∙ c.if-is_zero.false)

pub exchanged-requires-then-not-is_zero-clause-basis : goal.exchanged-requires-then-not-is_zero-clause-basis
exchanged-requires-then-not-is_zero-clause-basis c =
    next_basis c.args.m.now c.args.r.now c.requires.problem c.requires.rows c.in_ok-basis.basis c.in_ok-basis.ensures c.at.result c.requires.columns c.at.ensures
    (sym c.is_zero.ensures ∙ c.if-is_zero.false) c.exchanged.new.basis (c.in_ok-exchanged.ensures c.if-not-branch.false)

pub exchanged-requires-then-not-is_zero-clause-pivot : goal.exchanged-requires-then-not-is_zero-clause-pivot
exchanged-requires-then-not-is_zero-clause-pivot c =
    next_pivot c.args.m.now c.args.r.now c.requires.problem c.requires.rows c.in_ok-basis.basis c.in_ok-basis.ensures c.at.result c.requires.columns c.at.ensures
    (sym c.is_zero.ensures ∙ c.if-is_zero.false) c.exchanged.new.basis (c.in_ok-exchanged.ensures c.if-not-branch.false)
    c.at-2.result c.at-2.ensures (sym c.is_zero-2.ensures ∙ c.if-not-is_zero.true)
