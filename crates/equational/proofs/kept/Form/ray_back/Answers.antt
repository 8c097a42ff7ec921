use Rattle.std.proofs.Common.{◌≡◌, ◌∙◌, ap, sym}
use Rattle.frac_core.specs.Parts.{max_part}
use Rattle.equational_law.proofs.Calculated.{ray_gives}
use Rattle.equational.specs.Formed.{Formed}
use Rattle.equational.proofs.Answered.{answer_operations, answer_value}
use Rattle.equational.proofs.kept.Form.ray_back.Goals as goal

pub returns-clause-operations : goal.returns-clause-operations
returns-clause-operations c =
    let same : c.args.self.now.region ≡ c.deref.result.now = sym (c.deref.ensures.value ∙ ap (λ (f : Formed). f.region) c.self.view_is) in
    rw same (answer_operations _ _ _ c.columns_back.result (ray_gives max_part c.deref.result.now c.args.d.now) c.columns_back.ensures)

pub returns-clause-exact : goal.returns-clause-exact
returns-clause-exact c =
    let same : c.args.self.now.region ≡ c.deref.result.now = sym (c.deref.ensures.value ∙ ap (λ (f : Formed). f.region) c.self.view_is) in
    rw same (answer_value _ _ _ c.columns_back.result (ray_gives max_part c.deref.result.now c.args.d.now) c.columns_back.ensures)
