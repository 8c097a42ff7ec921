use Rattle.std.proofs.Common.{arith}
use Rattle.face_descent.proofs.Valley.{told, valley_by}
use Rattle.form_tests.proofs.descents.is_valley.Goals as goal

pub returns : goal.returns
returns c costs =
    valley_by c.args.f.now.form c.matrix.result.now.rows c.quadratic-rows.result.now.rows c.cost-cost.result.now c.matrix.ensures.form c.matrix.ensures.rows c.quadratic-rows.ensures.rows c.cost-cost.ensures (omega arith) (omega arith)
    c.at.result c.at-2.result c.at-3.result c.at-4.result c.at-5.result c.at-6.result c.whole-two.result c.whole.result c.at.ensures c.at-2.ensures c.at-3.ensures c.at-4.ensures c.at-5.ensures c.at-6.ensures
    c.whole-two.ensures c.whole.ensures (told c.is_both.result _ c.if-not-is_both.false c.is_both.ensures) (told c.is_both-2.result _ c.if-not-is_both-2.false c.is_both-2.ensures) (c.is_both-3.ensures costs)
