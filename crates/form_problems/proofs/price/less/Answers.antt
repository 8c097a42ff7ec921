use Rattle.std.proofs.Common.{sym, ◌∙◌}
use Rattle.form_problems.proofs.PriceSteps.{nothing_less, less_is, less_stops}
use Rattle.form_problems.proofs.price.less.Goals as goal

pub returns-then-is_zero-clause-value : goal.returns-then-is_zero-clause-value
returns-then-is_zero-clause-value c = nothing_less c.args.p c.args.n (sym c.is_zero.ensures ∙ c.if-is_zero.true)

pub returns-clause-value : goal.returns-clause-value
returns-clause-value c = less_is c.args.p c.args.n c.subtracted.result c.subtracted.ensures

pub returns-clause-past : goal.returns-clause-past
returns-clause-past c = less_stops c.args.p c.args.n c.subtracted.result c.subtracted.ensures
