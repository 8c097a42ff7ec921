use Rattle.std.proofs.Common.{ℕ, ap, ◌∙◌, ◌++◌}
use Rattle.std.proofs.lemmas.Result.{on_ok_weaker}
use Rattle.rational.specs.Vectors.{zeros}
use Rattle.rational.specs.Tests.{is_negative}
use Rattle.equational_law.specs.Standing.{parts}
use Rattle.equational_rows.specs.Built.{all_slacks}
use Rattle.equational_rows.proofs.Appended.{equation_pushed, slacks_left}
use Rattle.equational_rows.proofs.rows.Rows.push_slacks.Goals as goal

pub returns : goal.returns
returns c =
    let n = parts c.args.layout.now.region in
    on_ok_weaker c.end.result (λ e. equation_pushed (all_slacks c.args.layout.now) c.slacks.result c.args.self.now c.end.new.self c.self.inside.entries.items c.self.inside.right c.push_zeros.new.entries.items
    (zeros n) c.args.slacks c.args.right c.self.view_is c.slacks.ensures.slacks
    (slacks_left c.self.inside.entries.items c.push_zeros.new.entries.items (is_negative c.args.right) n
    (c.in_ok-push_zeros.ensures ∙ ap (λ (n : ℕ). c.self.inside.entries.items ++ zeros n) c.parts.ensures.parts)) e) c.end.ensures
