use Rattle.std.proofs.Common.{arith}
use Rattle.std.proofs.lemmas.Result.{err_from_is_err_and}
use Rattle.linear_basis.proofs.Calculated.{rows_next, rows_end, rows_refused}
use Rattle.linear_basis.proofs.products.row_products.Goals as goal

pub loop-k-preserved : goal.loop-k-preserved
loop-k-preserved c = rows_next c.args.rows.now.rows c.args.v.now c.row.result.now c.loop-k.x c.push.new.self c.loop-k.k c.in_ok-value.value (omega arith) c.row.ensures.value (rw c.as_slice.ensures at c.in_ok-value.ensures) c.loop-k.invariant c.in_ok-push.ensures.ok

pub returns-in_err-value-clause-past : goal.returns-in_err-value-clause-past
returns-in_err-value-clause-past c =
    let p = err_from_is_err_and c.from_residual.result c.from_residual.ensures.1 in
    rw (p.1, p.2) (rows_refused c.args.rows.now.rows c.args.v.now c.row.result.now c.loop-k.k _ (omega arith) c.row.ensures.value (rw c.as_slice.ensures at c.in_err-value.ensures))

pub returns-clause-value : goal.returns-clause-value
returns-clause-value c = rows_end c.args.rows.now.rows c.args.v.now c.loop-k.x c.loop-k.k (omega arith) c.loop-k.invariant
