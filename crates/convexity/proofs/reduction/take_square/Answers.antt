use Rattle.std.specs.Prelude.{◌<◌, List, length}
use Rattle.std.proofs.Common.{ap, ◌∙◌, arith}
use Rattle.std.proofs.lemmas.Result.{err_from_is_err_and}
use Rattle.rational.specs.Rational.{ℚ, zero_ℚ}
use Rattle.rational.specs.Order.{rational_cmp}
use Rattle.rational.specs.Sums.{entry}
use Rattle.rational.specs.Vectors.{row_at}
use Rattle.convexity.proofs.Steps.{divisor_is, divided_refused, freed_refused, step_square}
use Rattle.convexity.proofs.reduction.take_square.Goals as goal

pub divide_onto-requires-clause-divisor : goal.divide_onto-requires-clause-divisor
divide_onto-requires-clause-divisor c =
    divisor_is (entry c.row.result.now 0) (ap (λ (r : List ℚ). rational_cmp (entry r 0) zero_ℚ) c.row.ensures.row ∙ c.requires.diagonal)

pub returns-in_err-divide_onto-clause-taken : goal.returns-in_err-divide_onto-clause-taken
returns-in_err-divide_onto-clause-taken c =
    let p = err_from_is_err_and c.from_residual.result c.from_residual.ensures.1 in
    let some : 0 < length (row_at c.args.half.now c.args.j) = rw (← c.row.ensures.row) (omega (arith, c.row.ensures.width, c.requires.place)) in
    rw (p.1, p.2) (divided_refused c.args.j c.args.half.now c.requires.place some c.requires.diagonal _ (rw (← c.row.ensures.row) c.in_err-divide_onto.ensures))

pub returns-in_err-free_rows-clause-taken : goal.returns-in_err-free_rows-clause-taken
returns-in_err-free_rows-clause-taken c =
    let p = err_from_is_err_and c.from_residual-in_err-free_rows.result c.from_residual-in_err-free_rows.ensures.1 in
    let some : 0 < length (row_at c.args.half.now c.args.j) = rw (← c.row.ensures.row) (omega (arith, c.row.ensures.width, c.requires.place)) in
    rw (p.1, p.2) (freed_refused c.args.j c.args.half.now c.requires.place some c.requires.diagonal c.divide_onto.new.v _
    (rw (← c.row.ensures.row) c.in_ok-divide_onto.ensures) c.in_err-free_rows.ensures.rows)

pub returns-clause-taken : goal.returns-clause-taken
returns-clause-taken c =
    let some : 0 < length (row_at c.args.half.now c.args.j) = rw (← c.row.ensures.row) (omega (arith, c.row.ensures.width, c.requires.place)) in
    step_square c.args.j c.args.half.now c.requires.place some c.requires.diagonal c.divide_onto.new.v c.free_rows.new.half c.put.new.self
    (rw (← c.row.ensures.row) c.in_ok-divide_onto.ensures) c.in_ok-free_rows.ensures.rows c.free_rows.ensures.size c.put.ensures
