use Rattle.convexity.proofs.Answered.{operations_are, exact_is, right_is, width_is, few_is}
use Rattle.convexity.proofs.squares.Goals as goal

pub returns-clause-operations : goal.returns-clause-operations
returns-clause-operations c = operations_are c.args.p.now c.columns-columns.ensures.program c.calculated.result c.calculated.ensures

pub returns-clause-exact : goal.returns-clause-exact
returns-clause-exact c = exact_is c.args.p.now c.columns-columns.ensures.program c.calculated.result c.calculated.ensures

pub returns-clause-right : goal.returns-clause-right
returns-clause-right c = right_is c.args.p.now c.columns-columns.ensures.program c.calculated.result c.calculated.ensures

pub returns-clause-width : goal.returns-clause-width
returns-clause-width c = width_is c.args.p.now c.columns-columns.ensures.program c.calculated.result c.calculated.ensures

pub returns-clause-few : goal.returns-clause-few
returns-clause-few c = few_is c.args.p.now c.columns-columns.ensures.program c.calculated.result c.calculated.ensures
