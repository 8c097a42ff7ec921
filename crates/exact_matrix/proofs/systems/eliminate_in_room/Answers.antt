use Rattle.std.proofs.lemmas.Result.{err_from_is_err_and}
use Rattle.exact_matrix.proofs.systems.eliminate_in_room.Goals as goal

pub returns-in_err-eliminate-clause-err : goal.returns-in_err-eliminate-clause-err
returns-in_err-eliminate-clause-err g c =
    let p = err_from_is_err_and c.from_residual-in_err-eliminate.result c.from_residual-in_err-eliminate.ensures.1 in
    rw (p.1, p.2) c.in_err-eliminate.ensures.lines
