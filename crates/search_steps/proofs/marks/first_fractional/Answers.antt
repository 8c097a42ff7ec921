use Rattle.std.proofs.Common.{arith}
use Rattle.search_steps.proofs.Columns.{whole_by_none}
use Rattle.search_steps.proofs.marks.first_fractional.Goals as goal

pub returns-clause-whole : goal.returns-clause-whole
returns-clause-whole c = whole_by_none c.args.p.now c.args.x.now (λ i h. c.loop-j.invariant i (omega (arith, h, c.loop-j-test.false, c.columns-j-end.ensures.count)))
