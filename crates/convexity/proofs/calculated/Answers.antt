use Rattle.std.proofs.lemmas.Result.{err_from_is_err_and}
use Rattle.convexity.proofs.Answered.{answer_negative, answer_carried_past, answer_squares, answer_past}
use Rattle.convexity.proofs.calculated.Goals as goal

pub returns-in_err-j : goal.returns-in_err-j
returns-in_err-j c =
    let p = err_from_is_err_and c.from_residual-in_err-j.result c.from_residual-in_err-j.ensures.1 in
    rw (p.1, p.2) (answer_past c.args.p.now.pairs c.in_ok-half.half c.reduce.new.half c.reduce.new.z _ c.in_ok-half.ensures c.in_err-j.ensures.reduced)

pub returns-in_err-carry_back-in-Some : goal.returns-in_err-carry_back-in-Some
returns-in_err-carry_back-in-Some c =
    let p = err_from_is_err_and c.from_residual-in_err-carry_back-in-Some.result c.from_residual-in_err-carry_back-in-Some.ensures.1 in
    rw (p.1, p.2) (answer_carried_past c.args.p.now.pairs c.in_ok-half.half c.reduce.new.half c.reduce.new.z c.in_ok-j.field-0 c.in-Some.j _ c.in_ok-half.ensures c.in_ok-j.ensures.reduced c.in-Some.is
    c.in_err-carry_back-in-Some.ensures)

pub returns-in-Some : goal.returns-in-Some
returns-in-Some c =
    answer_negative c.args.p.now.pairs c.in_ok-half.half c.reduce.new.half c.reduce.new.z c.carry_back.new.z c.in_ok-j.field-0 c.in-Some.j c.in_ok-half.ensures c.in_ok-j.ensures.reduced c.in-Some.is
    c.in_ok-carry_back-in-Some.ensures

pub returns : goal.returns
returns c =
    answer_squares c.args.p.now.pairs c.in_ok-half.half c.reduce.new.half c.reduce.new.z c.in_ok-j.field-0 c.in_ok-squares-in-None.squares c.in_ok-half.ensures c.in_ok-j.ensures.reduced c.in-None.is
    c.in_ok-squares-in-None.ensures
