use Rattle.std.proofs.Common.{ap, ◌+◌, ◌-◌, ◌++◌, ◌∷◌}
use Rattle.std.proofs.lemmas.Result.{err_from_is_err_and}
use Rattle.rational.specs.Rational.{one_ℚ}
use Rattle.rational.specs.Vectors.{zeros}
use Rattle.equational_law.specs.Standing.{parts}
use Rattle.frac_core.specs.Calculated.{answered}
use Rattle.equational_rows.specs.Built.{all_slacks}
use Rattle.exact_matrix.specs.declared.systems.Stop.TheVariants.{Past}
use Rattle.equational_rows.proofs.Columns.{column_taken, column_refused, column_without, column_half}
use Rattle.equational_rows.proofs.equations.column_taken.Goals as goal

pub returns-in_default : goal.returns-in_default
returns-in_default c = column_without (all_slacks c.args.layout.now) c.args.rows.now c.args.bounds.low c.args.bounds.high c.args.before _ c.in_default.is

pub returns-in_default-high : goal.returns-in_default-high
returns-in_default-high c =
    column_half (all_slacks c.args.layout.now) c.args.rows.now c.args.bounds.low c.args.bounds.high c.in-Some.low c.args.before _ c.in-Some.is c.in_default-high.is

pub returns-in_err-gap : goal.returns-in_err-gap
returns-in_err-gap c =
    let p = err_from_is_err_and c.from_residual.result c.from_residual.ensures.1 in
    rw (p.1, p.2)
    (column_refused (Past _) (all_slacks c.args.layout.now) c.args.rows.now c.args.bounds.low c.args.bounds.high c.in-Some.low c.in-Some-high.high c.args.before
    (zeros c.args.at ++ one_ℚ ∷ zeros (parts c.args.layout.now.region - (c.args.at + 1))) c.in-Some.is c.in-Some-high.is (ap answered c.in_err-gap.ensures))

pub returns : goal.returns
returns c =
    column_taken (all_slacks c.args.layout.now) c.args.rows.now c.push_column.new.self c.args.bounds.low c.args.bounds.high c.in-Some.low c.in-Some-high.high c.args.before
    (zeros c.args.at ++ one_ℚ ∷ zeros (parts c.args.layout.now.region - (c.args.at + 1))) c.whole.result c.in_ok-gap.gap c.in-Some.is c.in-Some-high.is c.whole.ensures
    (ap answered c.in_ok-gap.ensures) c.in_ok-push_column.ensures
