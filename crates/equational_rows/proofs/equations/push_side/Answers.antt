use Rattle.std.proofs.Common.{ap, replicate}
use Rattle.std.proofs.lemmas.Result.{err_from_is_err_and}
use Rattle.equational_law.specs.Standing.{spread}
use Rattle.frac_core.specs.Calculated.{answered}
use Rattle.equational_rows.specs.Built.{all_slacks}
use Rattle.exact_matrix.specs.declared.systems.Stop.TheVariants.{Past}
use Rattle.equational_rows.proofs.Gathered.{equation, side_taken, stops_taken}
use Rattle.equational_rows.proofs.equations.push_side.Goals as goal

pub returns-in_err-right : goal.returns-in_err-right
returns-in_err-right c =
    let p = err_from_is_err_and c.from_residual.result c.from_residual.ensures.1 in
    rw (p.1, p.2) (stops_taken (Past _) (all_slacks c.args.layout.now) c.args.rows.now _ _ (ap answered c.in_err-right.ensures))

pub returns : goal.returns
returns c =
    side_taken (all_slacks c.args.layout.now) c.args.rows.now c.push_row.new.self _ c.in_ok-right.right
    (equation (spread c.args.layout.now.region c.args.row.now) c.args.slacks.before (replicate c.args.slacks.own c.args.slacks.entry)) c.is_negative.result
    (ap answered c.in_ok-right.ensures) c.in_ok-push_row.ensures c.is_negative.ensures
