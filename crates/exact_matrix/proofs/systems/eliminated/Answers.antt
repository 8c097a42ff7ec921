use Rattle.std.proofs.Common.{sym, ap, ◌∙◌}
use Rattle.std.specs.Prelude.{unsigned_abs}
use Rattle.std.proofs.lemmas.Result.{err_from_is_err_and}
use Rattle.elimination_law.specs.Calculation.{eliminated_in}
use Rattle.exact_matrix.proofs.Assembled.{state_fresh}
use Rattle.exact_matrix.proofs.Answered.{stops_fresh}
use Rattle.exact_matrix.proofs.systems.eliminated.Goals as goal

pub returns-clause-ok : goal.returns-clause-ok
returns-clause-ok g c =
    ap (eliminated_in (unsigned_abs g.F.ExactField.TOP) c.args.n) (sym (state_fresh g.F.ExactField.value c.in_ok-pivots.pivots c.rows.result c.args.rows.now c.rows.ensures c.in_ok-pivots.ensures))
    ∙ c.in_ok-eliminate_in_room.ensures.ok

pub returns-in_err-eliminate_in_room-clause-err : goal.returns-in_err-eliminate_in_room-clause-err
returns-in_err-eliminate_in_room-clause-err g c =
    let p = err_from_is_err_and c.from_residual-in_err-eliminate_in_room.result c.from_residual-in_err-eliminate_in_room.ensures.1 in
    rw (p.1, p.2) (stops_fresh g.F.ExactField.value c.in_ok-pivots.pivots c.rows.result c.args.rows.now (unsigned_abs g.F.ExactField.TOP) c.args.n _
    c.rows.ensures c.in_ok-pivots.ensures c.in_err-eliminate_in_room.ensures.err)
