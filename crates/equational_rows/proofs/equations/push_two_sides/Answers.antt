use Rattle.std.proofs.Common.{ap, sym}
use Rattle.std.proofs.lemmas.Result.{err_from_is_err_and}
use Rattle.equational_law.specs.Standing.{parts, spread}
use Rattle.frac_core.specs.Calculated.{answered}
use Rattle.equational_law.proofs.Adjoint.{length-spread}
use Rattle.equational_rows.specs.Built.{all_slacks}
use Rattle.exact_matrix.specs.declared.systems.Stop.TheVariants.{Past}
use Rattle.equational_rows.proofs.Gathered.{two_first, two_gap, two_done}
use Rattle.equational_rows.proofs.equations.push_two_sides.Goals as goal

pub returns-in_err-negated : goal.returns-in_err-negated
returns-in_err-negated c =
    let p = err_from_is_err_and c.from_residual.result c.from_residual.ensures.1 in
    rw (p.1, p.2)
    (two_first c.in_err-negated.field-0.0 (all_slacks c.args.layout.now) c.args.rows.now (spread c.args.layout.now.region c.args.row.now) c.args.before c.whole-entry.result c.args.sides.0 c.args.sides.1
    c.args.product c.whole-entry.ensures c.in_err-negated.ensures)

pub returns-in_err-gap : goal.returns-in_err-gap
returns-in_err-gap c =
    let p = err_from_is_err_and c.from_residual-in_err-gap.result c.from_residual-in_err-gap.ensures.1 in
    rw (p.1, p.2)
    (two_gap (Past _) (all_slacks c.args.layout.now) c.args.rows.now c.push_side.new.rows (spread c.args.layout.now.region c.args.row.now) c.args.before c.whole-entry.result c.args.sides.0 c.args.sides.1
    c.args.product c.in_ok-negated.negated c.whole-entry.ensures c.in_ok-negated.ensures (ap answered c.in_err-gap.ensures))

pub returns : goal.returns
returns c =
    let row = spread c.args.layout.now.region c.args.row.now in
    two_done (all_slacks c.args.layout.now) c.args.rows.now c.push_side.new.rows c.push_slacks.new.self row c.args.before (parts c.args.layout.now.region) c.whole-entry.result c.args.sides.0 c.args.sides.1
    c.args.product c.in_ok-gap.gap c.in_ok-negated.negated c.whole-entry.ensures (sym (length-spread c.args.layout.now.region c.args.row.now)) c.in_ok-negated.ensures
    (ap answered c.in_ok-gap.ensures) c.in_ok-push_slacks.ensures
