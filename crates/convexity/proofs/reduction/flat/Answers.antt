use Rattle.std.specs.Prelude.{◌<◌, ◌+◌, List, Some, None, length, slice_set}
use Rattle.std.proofs.Common.{ap, sym, ◌∙◌, arith, rules}
use Rattle.std.proofs.lemmas.Result.{err_from_is_err_and}
use Rattle.rational.specs.Rational.{ℚ}
use Rattle.rational.specs.Sums.{entry}
use Rattle.rational.specs.Vectors.{row_at}
use Rattle.convexity.specs.Places.{answer_found}
use Rattle.convexity.proofs.Steps.{entry_is, place_read, place_nonzero, step_none, step_tilted, step_tilt_refused}
use Rattle.convexity.proofs.reduction.flat.Goals as goal

pub returns-in_default-clause-step : goal.returns-in_default-clause-step
returns-in_default-clause-step c =
    let some : 0 < length c.row-row.result.now = omega (arith, c.row-row.ensures.width, c.requires.place) in
    step_none c.args.j c.args.half.now c.requires.place (rw (← c.row-row.ensures.row) some) c.requires.diagonal
    (place_read (row_at c.args.half.now c.args.j) c.row-row.result.now None c.row-row.ensures.row c.in_default.ensures.place)

pub tilt-requires : goal.tilt-requires
tilt-requires c =
    let k = c.in-Some.k in
    let within : 1 + c.in-Some.k < length c.row-row.result.now = search rules in
    place_nonzero (row_at c.args.half.now c.args.j) k c.index-row-k.result
    (place_read (row_at c.args.half.now c.args.j) c.row-row.result.now (Some k) c.row-row.ensures.row c.in-Some.ensures.place)
    (entry_is c.row-row.result.now (1 + k) c.index-row-k.result c.index-row-k.is within ∙ ap (λ (r : List ℚ). entry r (1 + k)) c.row-row.ensures.row)

pub returns-in_err-t-clause-step : goal.returns-in_err-t-clause-step
returns-in_err-t-clause-step c =
    let p = err_from_is_err_and c.from_residual.result c.from_residual.ensures.1 in
    let k = c.in-Some.k in
    let some : 0 < length c.row-row.result.now = omega (arith, c.row-row.ensures.width, c.requires.place) in
    let within : 1 + c.in-Some.k < length c.row-row.result.now = search rules in
    let first : 0 < length c.row.result.now = omega (arith, c.row.ensures.width, c.row-row.ensures.width, within) in
    rw (p.1, p.2)
    (step_tilt_refused c.args.j k c.args.half.now c.index-row-k.result c.index-row-0.result _ c.requires.place (rw (← c.row-row.ensures.row) some) c.requires.diagonal
    (place_read (row_at c.args.half.now c.args.j) c.row-row.result.now (Some k) c.row-row.ensures.row c.in-Some.ensures.place)
    (entry_is c.row-row.result.now (1 + k) c.index-row-k.result c.index-row-k.is within ∙ ap (λ (r : List ℚ). entry r (1 + k)) c.row-row.ensures.row)
    (entry_is c.row.result.now 0 c.index-row-0.result c.index-row-0.is first ∙ ap (λ (r : List ℚ). entry r 0) c.row.ensures.row) (sym c.in_err-t.ensures))

pub returns-clause-step : goal.returns-clause-step
returns-clause-step c =
    let k = c.in-Some.k in
    let some : 0 < length c.row-row.result.now = omega (arith, c.row-row.ensures.width, c.requires.place) in
    let within : 1 + c.in-Some.k < length c.row-row.result.now = search rules in
    let first : 0 < length c.row.result.now = omega (arith, c.row.ensures.width, c.row-row.ensures.width, within) in
    ap (answer_found c.args.j c.args.half.now)
    (c.set-2.ensures ∙ ap (λ (u : List ℚ). slice_set u (c.args.j + 1 + k) c.in_ok-t.t) (c.set.ensures ∙ ap (λ (q : ℚ). slice_set c.args.z.now c.args.j q) c.whole.ensures))
    ∙ step_tilted c.args.j k c.args.half.now c.args.z.now c.index-row-k.result c.index-row-0.result c.in_ok-t.t c.requires.place (rw (← c.row-row.ensures.row) some) c.requires.zeros
    c.requires.diagonal (place_read (row_at c.args.half.now c.args.j) c.row-row.result.now (Some k) c.row-row.ensures.row c.in-Some.ensures.place)
    (entry_is c.row-row.result.now (1 + k) c.index-row-k.result c.index-row-k.is within ∙ ap (λ (r : List ℚ). entry r (1 + k)) c.row-row.ensures.row)
    (entry_is c.row.result.now 0 c.index-row-0.result c.index-row-0.is first ∙ ap (λ (r : List ℚ). entry r 0) c.row.ensures.row) (sym c.in_ok-t.ensures)
