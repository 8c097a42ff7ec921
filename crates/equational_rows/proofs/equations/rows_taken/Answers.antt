use Rattle.std.proofs.Common.{◌≡◌, ◌<◌, length, arith, ap, ◌∙◌}
use Rattle.std.proofs.lemmas.List.{length-map}
use Rattle.std.proofs.lemmas.Result.{err_from_is_err_and}
use Rattle.program_law.specs.Program.{sides}
use Rattle.equational_law.specs.Equations.{slacks_at}
use Rattle.equational_rows.specs.Built.{all_slacks}
use Rattle.frac_core.specs.Calculated.{answered}
use Rattle.exact_matrix.specs.declared.systems.Stop.TheVariants.{Past}
use Rattle.equational_rows.proofs.Gathered.{row_stops, sides_stop, row_on, rows_end, first_on}
use Rattle.equational_rows.proofs.Places.{some_row, row_found, entries_found, same_found, row_slacks_next}
use Rattle.equational_rows.proofs.equations.rows_taken.Goals as goal

pub returns-in_err-product-clause-equations : goal.returns-in_err-product-clause-equations
returns-in_err-product-clause-equations c =
    let p = c.args.p.now in
    let q = err_from_is_err_and c.from_residual.result c.from_residual.ensures.1 in
    rw (q.1, q.2)
    (row_stops (Past _) (all_slacks c.args.layout.now) c.loop-i.rows c.args.layout.now.region c.args.h.now c.loop-i.before c.loop-i.i (sides p) p.entries _ c.entries_of-row.result.now _
    (some_row p c.loop-i.i (omega (arith, c.rows-i-end.ensures.count, c.loop-i-test.true)))
    (entries_found p c.rows-i-end.ensures.program c.loop-i.i c.entries_of-row.result.now (omega (arith, c.rows-i-end.ensures.count, c.loop-i-test.true)) c.entries_of-row.ensures.entries)
    (ap answered c.in_err-product.ensures) c.loop-i.invariant.0)

pub returns-in_err-negated-clause-equations : goal.returns-in_err-negated-clause-equations
returns-in_err-negated-clause-equations c =
    let p = c.args.p.now in
    let q = err_from_is_err_and c.from_residual-in_err-negated.result c.from_residual-in_err-negated.ensures.1 in
    rw (q.1, q.2)
    (sides_stop c.in_err-negated.field-0.0 (all_slacks c.args.layout.now) c.loop-i.rows c.args.layout.now.region c.args.h.now c.loop-i.before c.loop-i.i (sides p) p.entries c.row.result c.entries_of-row.result.now
    c.in_ok-product.product _
    (row_found p c.loop-i.i c.row.result (omega (arith, c.rows-i-end.ensures.count, c.loop-i-test.true)) c.row.ensures.row)
    (entries_found p c.rows-i-end.ensures.program c.loop-i.i c.entries_of-row.result.now (omega (arith, c.rows-i-end.ensures.count, c.loop-i-test.true)) c.entries_of-row.ensures.entries)
    (ap answered c.in_ok-product.ensures) c.in_err-negated.ensures c.loop-i.invariant.0)

pub push_row_equations-requires-clause-within : goal.push_row_equations-requires-clause-within
push_row_equations-requires-clause-within c =
    let p = c.args.p.now in
    let next = row_slacks_next (sides p) c.loop-i.i c.row.result (omega (arith, length-map p.rows (λ r. r.1), c.rows-i-end.ensures.count, c.loop-i-test.true)) c.row.ensures.row in
    omega (arith, next, c.requires.slacks, c.loop-i.invariant.2)

pub overflow_add-before : goal.overflow_add-before
overflow_add-before c = omega (arith, c.loop-i.invariant.3, c.slacks_of-before.ensures.few, c.rows-i-end.ensures.few, c.loop-i-test.true)

pub loop-i-preserved : goal.loop-i-preserved
loop-i-preserved c =
    let p = c.args.p.now in
    let within : c.loop-i.i < length p.rows = omega (arith, c.rows-i-end.ensures.count, c.loop-i-test.true) in
    let here = row_found p c.loop-i.i c.row.result within c.row.ensures.row in
    let there = entries_found p c.rows-i-end.ensures.program c.loop-i.i c.entries_of-row.result.now within c.entries_of-row.ensures.entries in
    let count : c.slacks_of-before.result ≡ slacks_at c.row.result = c.slacks_of-before.ensures.slacks ∙ ap slacks_at (same_found (sides p) c.loop-i.i c.row-in-loop-i.result c.row.result c.row-in-loop-i.ensures.row c.row.ensures.row) in
    let next = row_slacks_next (sides p) c.loop-i.i c.row.result (omega (arith, length-map p.rows (λ r. r.1), within)) c.row.ensures.row in (
      row_on (all_slacks c.args.layout.now) c.loop-i.rows c.push_row_equations.new.rows c.args.layout.now.region c.args.h.now c.loop-i.before c.loop-i.i c.slacks_of-before.result (sides p) p.entries c.row.result
          c.entries_of-row.result.now c.in_ok-product.product c.in_ok-negated.negated _ here there count (ap answered c.in_ok-product.ensures) c.in_ok-negated.ensures c.loop-i.invariant.0,
      λ more. first_on (all_slacks c.args.layout.now) c.loop-i.rows c.push_row_equations.new.rows c.args.layout.now.region c.args.h.now c.loop-i.before c.loop-i.i c.slacks_of-before.result c.len-equation.result (sides p)
          p.entries c.row.result c.entries_of-row.result.now c.in_ok-product.product c.in_ok-negated.negated c.loop-i.firsts.items c.push.new.items.items more _ here there c.row.ensures.good.some count (ap answered c.in_ok-product.ensures)
          c.in_ok-negated.ensures c.len-equation.ensures c.in_ok-push.ensures (c.loop-i.invariant.1 more),
      omega (arith, next, count, c.loop-i.invariant.2),
      omega (arith, c.slacks_of-before.ensures.few, c.loop-i.invariant.3),
    )

pub returns-clause-equations : goal.returns-clause-equations
returns-clause-equations c =
    let p = c.args.p.now in
    rows_end (all_slacks c.args.layout.now) c.loop-i.rows c.args.layout.now.region c.args.h.now c.loop-i.before c.loop-i.i (sides p) p.entries _
    (omega (arith, length-map p.rows (λ r. r.1), c.rows-i-end.ensures.count, c.loop-i-test.false)) c.loop-i.invariant.0
