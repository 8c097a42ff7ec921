use Rattle.std.proofs.Common.{sym, ◌∙◌}
use Rattle.form_problems.proofs.PriceSteps.{no_quotient, quotient_is, quotient_stops}
use Rattle.form_problems.proofs.price.quotient.Goals as goal

pub returns-then-is_zero-clause-value : goal.returns-then-is_zero-clause-value
returns-then-is_zero-clause-value c = no_quotient c.args.x c.args.q (sym c.is_zero.ensures ∙ c.if-is_zero.true)

pub returns-clause-value : goal.returns-clause-value
returns-clause-value c = quotient_is c.args.x c.args.q c.divided.result c.divided.ensures

pub returns-clause-past : goal.returns-clause-past
returns-clause-past c = quotient_stops c.args.x c.args.q c.divided.result c.divided.ensures
