use Rattle.std.proofs.Common.{◌+◌, ◌-◌, ℕ, ap, arith}
use Rattle.symmetric_half.proofs.Triangles.{start_is, start_within}
use Rattle.symmetric_half.proofs.half.part_of.Goals as goal

pub returns-clause-start : goal.returns-clause-start
returns-clause-start c = start_is c.args.size c.args.j (omega arith)

pub returns-clause-end : goal.returns-clause-end
returns-clause-end c = ap (λ (t : ℕ). t + (c.args.size - c.args.j)) (start_is c.args.size c.args.j (omega arith))

pub returns-clause-within : goal.returns-clause-within
returns-clause-within c = rw (start_is c.args.size c.args.j (omega arith)) (start_within c.args.size c.args.j c.requires.place)
