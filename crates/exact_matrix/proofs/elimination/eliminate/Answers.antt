use Rattle.std.proofs.Common.{sym, ◌∙◌, arith}
use Rattle.std.specs.Prelude.{unsigned_abs}
use Rattle.std.proofs.lemmas.Result.{err_from_is_err_and}
use Rattle.exact_matrix.specs.State.{state}
use Rattle.exact_matrix.proofs.States.{columns_more, columns_past, columns_end}
use Rattle.exact_matrix.proofs.elimination.eliminate.Goals as goal

pub returns-clause-lines : goal.returns-clause-lines
returns-clause-lines g c =
    sym c.loop-j.invariant.2 ∙ columns_end (unsigned_abs g.F.ExactField.TOP) c.args.n c.loop-j.j (state g.F.ExactField.value c.loop-j.pivots c.loop-j.rows) (omega arith)

pub loop-j-preserved : goal.loop-j-preserved
loop-j-preserved g c =
    let v = g.F.ExactField.value in
    let s = c.loop-j.invariant.0 in let t = c.step.ensures.shape in (
      record { columns = t.columns ∙ s.columns; rows = t.rows ∙ s.rows },
      c.step.ensures.pivots ∙ c.loop-j.invariant.1,
      columns_more (unsigned_abs g.F.ExactField.TOP) c.args.n c.loop-j.j (state v c.loop-j.pivots c.loop-j.rows) (state v c.step.new.pivots c.step.new.rows) (omega arith) c.in_ok-step.ensures.lines
          ∙ c.loop-j.invariant.2,
    )

pub returns-in_err-step-clause-lines : goal.returns-in_err-step-clause-lines
returns-in_err-step-clause-lines g c =
    let p = err_from_is_err_and c.from_residual.result c.from_residual.ensures.1 in
    rw (p.1, p.2) (sym c.loop-j.invariant.2
    ∙ columns_past (unsigned_abs g.F.ExactField.TOP) c.args.n c.loop-j.j (state g.F.ExactField.value c.loop-j.pivots c.loop-j.rows) _ (omega arith) c.in_err-step.ensures.lines)

pub returns-in_err-step-clause-shape : goal.returns-in_err-step-clause-shape
returns-in_err-step-clause-shape g c =
    let s = c.loop-j.invariant.0 in let t = c.step.ensures.shape in
    record { columns = t.columns ∙ s.columns; rows = t.rows ∙ s.rows }
