use Rattle.convexity.proofs.Curved.{curved, curved_width, negative_found}
use Rattle.convexity.proofs.laws.reduction_tells_the_curvature.Goals as goal

pub returns-clause-right : goal.returns-clause-right
returns-clause-right c = curved

pub returns-clause-width : goal.returns-clause-width
returns-clause-width c = curved_width

pub returns-clause-negative : goal.returns-clause-negative
returns-clause-negative c = negative_found
