use Rattle.std.proofs.Common.{List, length, sym, ap, ◌∙◌, Result, Ok}
use Rattle.std.proofs.lemmas.Result.{err_from_is_err_and}
use Rattle.rational.specs.Rational.{ℚ}
use Rattle.frac_core.specs.Parts.{max_part}
use Rattle.frac_core.specs.Calculated.{◌>>=◌}
use Rattle.frac_core.specs.declared.fractions.Refused.{Refused}
use Rattle.equational_law.specs.Form.{padded}
use Rattle.equational_law.specs.Standing.{spread}
use Rattle.equational_rows.specs.Built.{all_slacks}
use Rattle.equational_rows.proofs.Chains.{stops_then}
use Rattle.equational.specs.Made.{objective_in}
use Rattle.equational.proofs.objective.objective_of.Goals as goal

pub returns-in_err-costs-clause-objective : goal.returns-in_err-costs-clause-objective
returns-in_err-costs-clause-objective c =
    let q = err_from_is_err_and c.from_residual.result c.from_residual.ensures.1 in
    rw (q.1, q.2) (stops_then c.in_err-costs.field-0.0 (objective_in max_part c.args.p.now c.args.h.now) _ c.in_err-costs.ensures.objective)

pub cost-requires : goal.cost-requires
cost-requires c = ap length c.as_slice.ensures ∙ c.in_ok-costs.ensures.count ∙ sym c.requires.region

pub returns-clause-objective : goal.returns-clause-objective
returns-clause-objective c =
    let l = c.args.layout.now in
    ap (λ (t : Result (List ℚ × ℚ) Refused). t >>= λ (o : List ℚ × ℚ). Ok (padded (all_slacks l) (spread l.region o.0), o.1)) c.in_ok-costs.ensures.objective
    ∙ ap (λ (cs : List ℚ). Ok (cs, c.in_ok-costs.constant)) (sym (c.in_ok-cost.ensures ∙ ap (λ (cs : List ℚ). padded (all_slacks l) (spread l.region cs)) c.as_slice.ensures))
