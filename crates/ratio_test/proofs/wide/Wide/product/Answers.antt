use Rattle.ratio_test.proofs.CrossProducts.{four_words}
use Rattle.ratio_test.proofs.wide.Wide.product.Goals as goal

pub returns : goal.returns
returns c =
    four_words c.args.a c.args.b c.args.c c.args.d _ _ _ _ _ _ _ _ _ _ _ _ c.carrying_mul-low.ensures c.carrying_mul-low-2.ensures c.carrying_mul-middle.ensures c.carrying_mul-fourth.ensures c.carrying_mul-third.ensures c.carrying_mul-second.ensures
