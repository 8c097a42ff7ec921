use Rattle.std.proofs.Common.{ℕ, Bool, ap, ◌∙◌, ◌+◌, ◌-◌, ◌++◌, ◌∷◌}
use Rattle.std.proofs.lemmas.Result.{on_ok_weaker}
use Rattle.rational.specs.Rational.{ℚ, one_ℚ}
use Rattle.rational.specs.Vectors.{zeros}
use Rattle.rational.specs.Tests.{is_negative}
use Rattle.equational_law.specs.Standing.{parts}
use Rattle.equational_rows.specs.Built.{all_slacks, signed_by}
use Rattle.equational_rows.proofs.Appended.{equation_pushed, column_left}
use Rattle.equational_rows.proofs.rows.Rows.push_column.Goals as goal

pub returns : goal.returns
returns c =
    let n = parts c.args.layout.now.region in
    on_ok_weaker c.end.result (λ e. equation_pushed (all_slacks c.args.layout.now) c.slacks.result c.args.self.now c.end.new.self c.self.inside.entries.items c.self.inside.right c.push_zeros-2.new.entries.items
    (zeros c.args.at ++ one_ℚ ∷ zeros (n - (c.args.at + 1))) c.args.slacks c.args.right c.self.view_is c.slacks.ensures.slacks
    (column_left c.self.inside.entries.items c.push_zeros.new.entries.items c.push.new.self.items c.push_zeros-2.new.entries.items (is_negative c.args.right) c.signed.result one_ℚ c.args.at (n - (c.args.at + 1))
    c.in_ok-push_zeros.ensures
    (c.signed.ensures ∙ ap (λ (b : Bool). signed_by b c.whole.result) c.is_negative.ensures ∙ ap (λ (x : ℚ). signed_by (is_negative c.args.right) x) c.whole.ensures)
    c.in_ok-push.ensures.items
    (c.in_ok-push_zeros-2.ensures ∙ ap (λ (n : ℕ). c.push.new.self.items ++ zeros (n - (c.args.at + 1))) c.parts.ensures.parts)) e) c.end.ensures
