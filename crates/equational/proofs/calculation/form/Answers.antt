use Rattle.equational.proofs.Whole.{operations_are}
use Rattle.equational.proofs.calculation.form.Goals as goal

pub returns-clause-operations : goal.returns-clause-operations
returns-clause-operations c = operations_are c.args.p.now c.args.region.now c.calculated.result c.calculated.ensures.calculation
