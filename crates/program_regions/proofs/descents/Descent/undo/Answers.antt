use Rattle.std.proofs.Common.{arith}
use Rattle.program_regions.proofs.DescentLemmas.{as_many_kept}
use Rattle.program_regions.proofs.descents.Descent.undo.Goals as goal

pub returns-in-Some-clause-again : goal.returns-in-Some-clause-again
returns-in-Some-clause-again g c = omega (arith, c.in-Some.ensures.again, as_many_kept c.set.new.self c.pop.new.cuts.items)
