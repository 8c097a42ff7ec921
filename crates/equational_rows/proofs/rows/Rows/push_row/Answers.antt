use Rattle.std.proofs.Common.{ap, ◌∙◌, ◌++◌, Bool}
use Rattle.std.proofs.lemmas.Result.{on_ok_weaker}
use Rattle.program_law.specs.Region.{Region}
use Rattle.equational_law.specs.Standing.{spread}
use Rattle.equational_rows.specs.Built.{all_slacks, signed}
use Rattle.equational_rows.proofs.Appended.{equation_pushed}
use Rattle.equational_rows.proofs.rows.Rows.push_row.Goals as goal

pub returns : goal.returns
returns c =
    let region = c.args.layout.now.region in
    on_ok_weaker c.end.result (λ e. equation_pushed (all_slacks c.args.layout.now) c.slacks.result c.args.self.now c.end.new.self c.self.inside.entries.items c.self.inside.right c.push_spread.new.entries.items
    (spread region c.args.row.now) c.args.slacks c.args.right c.self.view_is c.slacks.ensures.slacks
    (c.in_ok-push_spread.ensures ∙ ap (λ (bs : Region). c.self.inside.entries.items ++ signed c.is_negative.result (spread bs c.args.row.now)) c.bounds.ensures.bounds
    ∙ ap (λ (b : Bool). c.self.inside.entries.items ++ signed b (spread region c.args.row.now)) c.is_negative.ensures) e) c.end.ensures
