use Rattle.std.proofs.Common.{◌≡◌, Ok, ap, sym, ◌∙◌, length}
use Rattle.std.proofs.lemmas.List.{length-map}
use Rattle.std.proofs.lemmas.Result.{err_from_is_err_and}
use Rattle.frac_core.specs.Parts.{max_part}
use Rattle.program_law.specs.declared.Row.{Row}
use Rattle.equational_law.specs.Standing.{shift, shift_at, standing}
use Rattle.equational_law.specs.Form.{form_of}
use Rattle.equational_law.specs.Calculation.{form_in}
use Rattle.equational_rows.specs.Built.{Laid, all_slacks, no_rows}
use Rattle.equational.specs.Made.{IsMade}
use Rattle.equational.specs.Formed.{Formed}
use Rattle.equational.proofs.Whole.{made, is_stopped, objective_stops, equations_stop}
use Rattle.equational.proofs.calculation.calculated.Goals as goal
use Rattle.equational.proofs.calculation.calculated.Goals.{In_ok-rows}

pub objective_of-requires-clause-region : goal.objective_of-requires-clause-region
objective_of-requires-clause-region c = ap (λ (l : Laid). length l.region) c.in_ok-layout.ensures ∙ c.requires

pub objective_of-requires-clause-shift : goal.objective_of-requires-clause-shift
objective_of-requires-clause-shift c =
    ap length (c.deref.ensures.value ∙ c.in_ok-h.ensures ∙ ap shift (c.bounds.ensures.bounds ∙ ap (λ (l : Laid). l.region) c.in_ok-layout.ensures))
    ∙ length-map c.args.region.now (λ (b : Row). shift_at (standing b)) ∙ c.requires

pub returns-in_err-objective-clause-calculation : goal.returns-in_err-objective-clause-calculation
returns-in_err-objective-clause-calculation c =
    let q = err_from_is_err_and c.from_residual-in_err-objective.result c.from_residual-in_err-objective.ensures.1 in
    let h = c.deref.ensures.value ∙ c.in_ok-h.ensures ∙ ap shift (c.bounds.ensures.bounds ∙ ap (λ (l : Laid). l.region) c.in_ok-layout.ensures) in
    rw (q.1, q.2)
    (is_stopped c.in_err-objective.field-0.0 _
    (objective_stops c.in_err-objective.field-0.0 c.args.p.now c.args.region.now c.deref.result.now c.in_ok-layout.layout h c.in_err-objective.ensures.objective))

pub all_equations-requires-clause-region : goal.all_equations-requires-clause-region
all_equations-requires-clause-region c = ap (λ (l : Laid). length l.region) c.in_ok-layout.ensures ∙ c.requires

pub all_equations-requires-clause-slacks : goal.all_equations-requires-clause-slacks
all_equations-requires-clause-slacks c = ap (λ (l : Laid). l.row_slacks) c.in_ok-layout.ensures

pub all_equations-requires-clause-shift : goal.all_equations-requires-clause-shift
all_equations-requires-clause-shift c = c.deref-2.ensures.value ∙ c.in_ok-h.ensures ∙ ap shift c.bounds.ensures.bounds

pub returns-in_err-rows-clause-calculation : goal.returns-in_err-rows-clause-calculation
returns-in_err-rows-clause-calculation c =
    let q = err_from_is_err_and c.from_residual-in_err-rows.result c.from_residual-in_err-rows.ensures.1 in
    let h = c.deref.ensures.value ∙ c.in_ok-h.ensures ∙ ap shift (c.bounds.ensures.bounds ∙ ap (λ (l : Laid). l.region) c.in_ok-layout.ensures) in
    rw (q.1, q.2)
    (is_stopped c.in_err-rows.field-0.0 _
    (equations_stop c.in_err-rows.field-0.0 c.args.p.now c.args.region.now c.deref.result.now c.in_ok-layout.layout (c.in_ok-objective.objective.cost, c.in_ok-objective.objective.constant)
    (all_slacks c.in_ok-layout.layout) no_rows h c.in_ok-layout.ensures c.in_ok-objective.ensures.objective c.in_err-rows.ensures.equations))

-- the calculation, and the form's parts
whole : (c : In_ok-rows) → (form_in max_part c.args.p.now c.args.region.now ≡ Ok (form_of c.args.p.now c.args.region.now))
    × IsMade c.args.p.now c.args.region.now c.in_ok-layout.layout c.in_ok-rows.rows c.in_ok-rows.firsts.items c.in_ok-objective.objective.quadratic.items c.in_ok-objective.objective.cost
    c.in_ok-objective.objective.constant
whole c =
    let h = c.deref.ensures.value ∙ c.in_ok-h.ensures ∙ ap shift (c.bounds.ensures.bounds ∙ ap (λ (l : Laid). l.region) c.in_ok-layout.ensures) in
    made c.args.p.now c.args.region.now c.deref.result.now c.in_ok-layout.layout c.in_ok-rows.rows c.in_ok-rows.firsts.items c.in_ok-objective.objective.quadratic.items c.in_ok-objective.objective.cost
    c.in_ok-objective.objective.constant c.columns-columns.ensures.program c.requires h c.in_ok-layout.ensures c.in_ok-objective.ensures.objective c.in_ok-objective.ensures.quadratic
    c.in_ok-rows.ensures.equations c.in_ok-rows.ensures.firsts

pub assembled-requires : goal.assembled-requires
assembled-requires c = (c.args.p.now, (c.args.region.now, (whole c).1))

pub returns-clause-exact : goal.returns-clause-exact
returns-clause-exact c = c.assembled.ensures c.args.p.now c.args.region.now (whole (goal.at.returns-clause-exact c).In_ok-rows).1

pub returns-clause-calculation : goal.returns-clause-calculation
returns-clause-calculation c =
    let all = whole (goal.at.returns-clause-calculation c).In_ok-rows in
    all.0 ∙ ap (λ (f : Formed). Ok f.form) (sym (c.assembled.ensures c.args.p.now c.args.region.now all.1))
