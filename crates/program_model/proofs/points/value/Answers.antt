use Rattle.std.specs.Prelude.{◌≡◌, List, Result}
use Rattle.std.proofs.Common.{sym, subst, ◌∙◌}
use Rattle.rational.specs.Rational.{ℚ}
use Rattle.frac_core.specs.declared.fractions.Tried.{Tried}
use Rattle.frac_core.specs.declared.fractions.Tried.TheVariants.{Is, Past}
use Rattle.program_law.specs.Program.{Program}
use Rattle.cert_check_law.specs.declared.Event.{Event}
use Rattle.cert_check_law.specs.Chain.{answered, NoTestFails}
use Rattle.cert_check_law.specs.Value.{value_of}
use Rattle.program_model.specs.Tested.{IsValueIfTold}
use Rattle.program_model.proofs.PointLemmas.{value_passes, value_ends}
use Rattle.program_model.proofs.points.value.Goals as goal

pub as_tried-requires : goal.as_tried-requires
as_tried-requires c = subst (λ (r : Result ℚ Event). NoTestFails r) (sym c.calculated.ensures) (value_passes c.args.p.now c.args.x.now)

told : (p : Program) (x : List ℚ) (answer : Tried) → answered answer ≡ value_of p x → IsValueIfTold p x answer
told p x (Is v) e = value_ends p x v e
told p x (Past r) e = tt

pub returns-clause-value : goal.returns-clause-value
returns-clause-value c = told c.args.p.now c.args.x.now c.as_tried.result (c.as_tried.ensures ∙ c.calculated.ensures)
