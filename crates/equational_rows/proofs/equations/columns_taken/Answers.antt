use Rattle.std.proofs.Common.{◌≡◌, ◌<◌, length, get_or, arith, ap, ◌∙◌}
use Rattle.std.proofs.lemmas.Result.{err_from_is_err_and}
use Rattle.program_law.specs.declared.Row.{Row}
use Rattle.equational_law.specs.Standing.{parts_at, standing}
use Rattle.equational_law.specs.Equations.{bound_slacks_by}
use Rattle.equational_rows.specs.Built.{all_slacks}
use Rattle.equational_rows.proofs.Columns.{column_stops, column_on, columns_end}
use Rattle.equational_rows.proofs.Places.{same_place, place_in, parts_next, bound_slacks_next}
use Rattle.equational_rows.proofs.equations.columns_taken.Goals as goal

pub returns-in_err-column_taken : goal.returns-in_err-column_taken
returns-in_err-column_taken c =
    let p = err_from_is_err_and c.from_residual.result c.from_residual.ensures.1 in
    let region = c.args.layout.now.region in
    let bounds = c.bounds-bounds.ensures.bounds in
    rw (p.1, p.2)
    (column_stops c.in_err-column_taken.field-0.0 (all_slacks c.args.layout.now) c.loop-j.rows region c.loop-j.before c.loop-j.j c.loop-j.at c.index-bounds-j.result _
    (omega (arith, ap (λ bs. length bs) bounds, c.loop-j-test.true)) (place_in _ region c.loop-j.j c.index-bounds-j.result bounds c.index-bounds-j.is) c.loop-j.invariant.1
    c.in_err-column_taken.ensures c.loop-j.invariant.0)

pub overflow_add-at : goal.overflow_add-at
overflow_add-at c = omega (arith, c.loop-j.invariant.3, c.parts_of-at.ensures.few, c.bounds-bounds.ensures.few, c.loop-j-test.true, ap (λ bs. length bs) c.bounds-bounds.ensures.bounds)

pub overflow_add-before : goal.overflow_add-before
overflow_add-before c = omega (arith, c.loop-j.invariant.4, c.bound_slacks_of-before.ensures.few, c.bounds-bounds.ensures.few, c.loop-j-test.true, ap (λ bs. length bs) c.bounds-bounds.ensures.bounds)

pub loop-j-preserved : goal.loop-j-preserved
loop-j-preserved c =
    let region = c.args.layout.now.region in
    let bounds = c.bounds-bounds.ensures.bounds in
    let b = c.index-bounds-j.result in
    let within : c.loop-j.j < length region = omega (arith, ap (λ bs. length bs) bounds, c.loop-j-test.true) in
    let here : b ≡ get_or region c.loop-j.j b = place_in _ region c.loop-j.j b bounds c.index-bounds-j.is in
    let second = same_place _ c.loop-j.j c.index-bounds-j-in-loop-j.result b c.loop-j-test.true c.index-bounds-j-in-loop-j.is c.index-bounds-j.is in
    let third = same_place _ c.loop-j.j c.index-bounds-j-in-loop-j-2.result b c.loop-j-test.true c.index-bounds-j-in-loop-j-2.is c.index-bounds-j.is in
    let columns : c.parts_of-at.result ≡ parts_at (standing b) = c.parts_of-at.ensures.parts ∙ ap (λ (b : Row). parts_at (standing b)) second in
    let slacks : c.bound_slacks_of-before.result ≡ bound_slacks_by b.low b.high = c.bound_slacks_of-before.ensures.slacks ∙ ap (λ (b : Row). bound_slacks_by b.low b.high) third in (
      column_on (all_slacks c.args.layout.now) c.loop-j.rows c.column_taken.new.rows region c.loop-j.before c.loop-j.j c.loop-j.at c.bound_slacks_of-before.result b _ within here c.loop-j.invariant.1 slacks
          c.in_ok-column_taken.ensures c.loop-j.invariant.0,
      omega (arith, parts_next region c.loop-j.j b within here, columns, c.loop-j.invariant.1),
      omega (arith, bound_slacks_next region c.loop-j.j b within here, slacks, c.loop-j.invariant.2),
      omega (arith, c.parts_of-at.ensures.few, c.loop-j.invariant.3),
      omega (arith, c.bound_slacks_of-before.ensures.few, c.loop-j.invariant.4),
    )

pub returns : goal.returns
returns c =
    columns_end (all_slacks c.args.layout.now) c.loop-j.rows c.args.layout.now.region c.loop-j.before c.loop-j.j _
    (omega (arith, ap (λ bs. length bs) c.bounds-bounds.ensures.bounds, c.loop-j-test.false)) c.loop-j.invariant.0
