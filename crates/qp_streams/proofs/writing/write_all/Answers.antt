use Rattle.std.proofs.Common.{arith, ◌∙◌}
use Rattle.std.proofs.lemmas.List.{take_rest}
use Rattle.std.proofs.lemmas.Result.{err_from_is_err_and}
use Rattle.qp_streams.proofs.Known.{one_more_piece, front_taken}
use Rattle.qp_streams.proofs.writing.write_all.Goals as goal

pub returns-in_err-at-clause-front : goal.returns-in_err-at-clause-front
returns-in_err-at-clause-front g c =
    let p = err_from_is_err_and c.from_residual.result c.from_residual.ensures.1 in
    rw p.1 (front_taken _ _ _ c.loop-at.at c.args.text.now c.loop-at.invariant.1 c.in_err-at.ensures.bytes)

pub loop-at-preserved : goal.loop-at-preserved
loop-at-preserved g c =
    (omega (arith, c.in_ok-at.ensures.bound), one_more_piece _ _ _ c.loop-at.at c.in_ok-at.field-0 c.args.text.now c.loop-at.invariant.1 (rw take_rest at c.in_ok-at.ensures.bytes), c.in_ok-at.ensures.cause.kept ∙ c.loop-at.invariant.2)
