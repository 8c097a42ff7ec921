use Rattle.std.proofs.Common.{ap, ◌∙◌, length}
use Rattle.std.proofs.lemmas.List.{length-map}
use Rattle.std.proofs.lemmas.Result.{err_from_is_err_and}
use Rattle.program_law.specs.declared.Row.{Row}
use Rattle.equational_law.specs.Standing.{shift_at, standing}
use Rattle.equational_rows.specs.Built.{all_slacks}
use Rattle.equational_rows.proofs.All.{rows_stop_all, firsts_of_all, columns_stop_all, all_told}
use Rattle.equational_rows.proofs.equations.all_equations.Goals as goal

pub rows_taken-requires-clause-shift : goal.rows_taken-requires-clause-shift
rows_taken-requires-clause-shift c =
    ap length c.requires.shift ∙ length-map c.args.layout.now.region (λ (b : Row). shift_at (standing b)) ∙ c.requires.region

pub returns-in_err-firsts-clause-equations : goal.returns-in_err-firsts-clause-equations
returns-in_err-firsts-clause-equations c =
    let q = err_from_is_err_and c.from_residual.result c.from_residual.ensures.1 in
    rw (q.1, q.2)
    (rows_stop_all (all_slacks c.args.layout.now) c.new-rows.result c.args.p.now c.args.layout.now.region c.args.h.now c.args.layout.now.row_slacks c.new-rows.ensures c.requires.shift c.requires.slacks
    c.in_err-firsts.field-0.0 c.in_err-firsts.ensures.equations)

pub returns-in_err-columns_taken-clause-equations : goal.returns-in_err-columns_taken-clause-equations
returns-in_err-columns_taken-clause-equations c =
    let q = err_from_is_err_and c.from_residual-in_err-columns_taken.result c.from_residual-in_err-columns_taken.ensures.1 in
    rw (q.1, q.2)
    (columns_stop_all (all_slacks c.args.layout.now) c.new-rows.result c.args.p.now c.args.layout.now.region c.args.h.now c.args.layout.now.row_slacks c.new-rows.ensures c.requires.shift c.requires.slacks
    c.rows_taken.new.rows c.in_ok-firsts.ensures.equations c.in_err-columns_taken.field-0.0 c.in_err-columns_taken.ensures)

pub returns-clause-equations : goal.returns-clause-equations
returns-clause-equations c =
    all_told (all_slacks c.args.layout.now) c.new-rows.result c.args.p.now c.args.layout.now.region c.args.h.now c.args.layout.now.row_slacks c.new-rows.ensures c.requires.shift c.requires.slacks
    c.rows_taken.new.rows c.in_ok-firsts.ensures.equations c.columns_taken.new.rows c.in_ok-columns_taken.ensures

pub returns-clause-firsts : goal.returns-clause-firsts
returns-clause-firsts c =
    firsts_of_all (all_slacks c.args.layout.now) c.new-rows.result c.args.p.now c.args.layout.now.region c.args.h.now c.args.layout.now.row_slacks c.new-rows.ensures c.requires.shift c.requires.slacks
    c.in_ok-firsts.firsts.items c.in_ok-firsts.ensures.firsts
