use Rattle.std.proofs.Common.{map, sym, ap, ◌∙◌, subst}
use Rattle.std.specs.Prelude.{unsigned_abs, Result}
use Rattle.rational.specs.Rational.{ℚ, zero_ℚ}
use Rattle.rational.specs.Order.{same_fields}
use Rattle.frac_core.specs.declared.fractions.Refused.{Refused}
use Rattle.frac_core.specs.Row.{row_less}
use Rattle.elimination_law.specs.Elimination.{Line}
use Rattle.elimination_law.specs.Calculation.{with_entries}
use Rattle.exact_matrix.specs.Grid.{row_at}
use Rattle.frac_core.specs.Calculated.{Leaves}
use Rattle.exact_matrix.proofs.States.{entry_read, freed_pivot, freed_zero, freed_more, taken_line}
use Rattle.exact_matrix.proofs.elimination.free_row.Goals as goal

pub returns-then-is_pivot-clause-line : goal.returns-then-is_pivot-clause-line
returns-then-is_pivot-clause-line g c =
    let v = g.F.ExactField.value in
    freed_pivot (unsigned_abs g.F.ExactField.TOP) c.args.j (map v c.args.p.now) _ (sym c.is_pivot.ensures ∙ c.if-is_pivot.true)

pub returns-then-is_zero-clause-line : goal.returns-then-is_zero-clause-line
returns-then-is_zero-clause-line g c =
    let v = g.F.ExactField.value in
    let e = entry_read v (row_at c.args.rows.now c.args.i) c.args.j c.at-factor.result c.at-factor.ensures in
    freed_zero (unsigned_abs g.F.ExactField.TOP) c.args.j (map v c.args.p.now) _ (ap (λ x. same_fields x zero_ℚ) e ∙ sym c.is_zero.ensures ∙ c.if-is_zero.true)

pub returns-clause-line : goal.returns-clause-line
returns-clause-line g c =
    let v = g.F.ExactField.value in let top = unsigned_abs g.F.ExactField.TOP in
    let row = map v (row_at c.args.rows.now c.args.i) in
    let e = entry_read v (row_at c.args.rows.now c.args.i) c.args.j c.at-factor.result c.at-factor.ensures in
    let f = freed_more top c.args.j (map v c.args.p.now) (record { pivot = c.args.pivot; entries = row }) (sym c.is_pivot.ensures ∙ c.if-is_pivot.false)
    (ap (λ x. same_fields x zero_ℚ) e ∙ sym c.is_zero.ensures ∙ c.if-is_zero.false)
    ∙ ap (λ (x : ℚ). with_entries c.args.pivot (row_less top x row (map v c.args.p.now))) e in
    subst (λ (r : Result Line Refused). Leaves (record { pivot = c.args.pivot; entries = map v (row_at c.take_times.new.self c.args.i) }) c.take_times.result r) (sym f)
    (taken_line v c.take_times.result c.args.pivot (row_at c.take_times.new.self c.args.i) _ c.take_times.ensures.row)
