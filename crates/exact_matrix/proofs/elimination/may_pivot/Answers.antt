use Rattle.std.proofs.Common.{map, sym, ap, ◌∙◌}
use Rattle.std.specs.Prelude.{not, ◌&&◌}
use Rattle.rational.specs.Rational.{zero_ℚ}
use Rattle.rational.specs.Order.{same_fields}
use Rattle.rational.specs.Sums.{entry}
use Rattle.elimination_law.specs.Elimination.{is_unused}
use Rattle.exact_matrix.specs.Grid.{row_at}
use Rattle.exact_matrix.proofs.States.{may_unused, may_used, entry_read}
use Rattle.exact_matrix.proofs.elimination.may_pivot.Goals as goal

pub returns-then-is_none : goal.returns-then-is_none
returns-then-is_none g c =
    let v = g.F.ExactField.value in
    may_unused c.args.pivot c.is_none.result c.is_zero.result c.is_none.ensures c.if-is_none.true
    ∙ ap (λ b. is_unused c.args.pivot && not b) (c.is_zero.ensures ∙ ap (λ x. same_fields x zero_ℚ) (sym (entry_read v (row_at c.args.rows.now c.args.i) c.args.j c.at.result c.at.ensures)))

pub returns-else-is_none : goal.returns-else-is_none
returns-else-is_none g c =
    may_used c.args.pivot c.is_none.result (same_fields (entry (map g.F.ExactField.value (row_at c.args.rows.now c.args.i)) c.args.j) zero_ℚ) c.is_none.ensures c.if-is_none.false
