use Rattle.std.proofs.Common.{subst}
use Rattle.std.specs.Prelude.{IfOk, IfErr}
use Rattle.linear_simplex.specs.Decided.{IsAnswerOf, IsLinearStopOf, IsTrueOf}
use Rattle.form_problems.proofs.Sizes.{feasible_few, feasible_is, of_form}
use Rattle.form_problems.proofs.chains.feasible_chain.Goals as goal

pub feasible-requires-clause-problem : goal.feasible-requires-clause-problem
feasible-requires-clause-problem c =
    feasible_is c.args.f.now.form _ c.matrix.ensures.form (of_form c.matrix.result.now c.right.result.now c.args.f.now.form c.matrix.ensures.rows c.matrix.ensures.columns c.right.ensures)

pub feasible-requires-clause-few : goal.feasible-requires-clause-few
feasible-requires-clause-few c =
    feasible_few c.args.f.now c.requires.0 _ c.requires.1 (of_form c.matrix.result.now c.right.result.now c.args.f.now.form c.matrix.ensures.rows c.matrix.ensures.columns c.right.ensures)

pub returns-clause-answer : goal.returns-clause-answer
returns-clause-answer c =
    subst (λ q. IfOk c.feasible.result (IsAnswerOf q c.args.bases)) (of_form c.matrix.result.now c.right.result.now c.args.f.now.form c.matrix.ensures.rows c.matrix.ensures.columns c.right.ensures) c.feasible.ensures.answer

pub returns-clause-right : goal.returns-clause-right
returns-clause-right c =
    subst (λ q. IfOk c.feasible.result (IsTrueOf q)) (of_form c.matrix.result.now c.right.result.now c.args.f.now.form c.matrix.ensures.rows c.matrix.ensures.columns c.right.ensures) c.feasible.ensures.right

pub returns-clause-stop : goal.returns-clause-stop
returns-clause-stop c =
    subst (λ q. IfErr c.feasible.result (IsLinearStopOf q c.args.bases)) (of_form c.matrix.result.now c.right.result.now c.args.f.now.form c.matrix.ensures.rows c.matrix.ensures.columns c.right.ensures) c.feasible.ensures.stop
