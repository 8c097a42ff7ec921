use Rattle.std.proofs.Common.{sym, ap, ◌∙◌}
use Rattle.elimination_law.specs.Answers.{entry_in}
use Rattle.exact_matrix.specs.Grid.{row_at}
use Rattle.exact_matrix.specs.State.{values}
use Rattle.exact_matrix.proofs.Assembled.{held_pivot}
use Rattle.exact_matrix.proofs.States.{entry_read}
use Rattle.exact_matrix.proofs.answers.value_of.Goals as goal

pub returns-in-Some : goal.returns-in-Some
returns-in-Some g c =
    let v = g.F.ExactField.value in
    sym (ap (λ o. entry_in o c.args.at) (held_pivot v c.args.j c.args.pivots.now c.args.rows.now c.in-Some.i c.requires.rows c.in-Some.ensures)
    ∙ entry_read v (row_at c.args.rows.now c.in-Some.i) c.args.at c.at.result c.at.ensures)

pub returns-in-None : goal.returns-in-None
returns-in-None g c =
    let v = g.F.ExactField.value in
    c.zero.ensures ∙ sym (ap (λ o. entry_in o c.args.at) (c.in-None.ensures (values v c.args.rows.now)))
