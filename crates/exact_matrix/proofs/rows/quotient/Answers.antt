use Rattle.std.proofs.Common.{sym, subst, ◌∙◌}
use Rattle.std.specs.Prelude.{unsigned_abs}
use Rattle.frac_core.specs.declared.fractions.Tried.{Tried}
use Rattle.frac_core.specs.Dot.{IsAnswer}
use Rattle.exact_matrix.proofs.Passes.{divide_zero, divide_more}
use Rattle.exact_matrix.proofs.rows.quotient.Goals as goal

pub returns-then-is_zero : goal.returns-then-is_zero
returns-then-is_zero g c =
    let v = g.F.ExactField.value in
    divide_zero (unsigned_abs g.F.ExactField.TOP) (v c.args.q) (v c.args.x) (sym c.is_zero.ensures ∙ c.if-is_zero.true)

pub returns : goal.returns
returns g c =
    let v = g.F.ExactField.value in let top = unsigned_abs g.F.ExactField.TOP in
    subst (λ (t : Tried). IsAnswer v c.divided.result t) (sym (divide_more top (v c.args.q) (v c.args.x) (sym c.is_zero.ensures ∙ c.if-is_zero.false))) c.divided.ensures
