use Rattle.std.proofs.Common.{◌∙◌, ap}
use Rattle.equational.specs.Formed.{Formed}
use Rattle.equational.proofs.Multipliers.{multipliers_answer}
use Rattle.equational.proofs.kept.Form.multipliers_back.Goals as goal

pub returns : goal.returns
returns c =
    multipliers_answer c.args.self.now c.deref.result.now c.args.y.now c.rows_back.result
    (c.deref.ensures.value ∙ ap (λ (f : Formed). f.firsts) c.self.view_is) c.rows_back.ensures
