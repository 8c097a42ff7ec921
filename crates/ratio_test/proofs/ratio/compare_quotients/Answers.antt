use Rattle.std.proofs.Common.{sym, ◌∙◌}
use Rattle.ratio_test.proofs.CrossProducts.{quotients_by_products}
use Rattle.ratio_test.proofs.Ratios.{zero_quotients}
use Rattle.ratio_test.proofs.ratio.compare_quotients.Goals as goal

pub returns-then-is_zero-2 : goal.returns-then-is_zero-2
returns-then-is_zero-2 c =
    zero_quotients c.args.a c.args.s c.args.b c.args.t (sym c.is_zero.ensures ∙ c.if-is_zero.true) (sym c.is_zero-then-is_zero.ensures ∙ c.if-is_zero-2.true)

pub returns : goal.returns
returns c = c.compare_products.ensures ∙ quotients_by_products c.args.a c.args.t c.args.b c.args.s c.requires.t c.requires.s
