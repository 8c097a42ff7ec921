use Rattle.std.specs.Prelude.{List, Result}
use Rattle.std.proofs.Common.{sym, subst, ◌∙◌}
use Rattle.rational.specs.Rational.{ℚ}
use Rattle.frac_core.specs.declared.fractions.Refused.{Refused}
use Rattle.rational.specs.Vectors.{row_at}
use Rattle.frac_core.specs.Calculated.{Leaves}
use Rattle.convexity.proofs.Steps.{less_is}
use Rattle.convexity.proofs.reduction.free_row.Goals as goal

pub returns-clause-row : goal.returns-clause-row
returns-clause-row c =
    subst (λ (s : Result (List ℚ) Refused). Leaves (row_at c.take_times.new.self c.args.k) c.take_times.result s)
    (less_is c.args.f c.args.v.now (row_at c.args.half.now c.args.k) (sym c.is_zero.ensures ∙ c.if-is_zero.false)) c.take_times.ensures.row
