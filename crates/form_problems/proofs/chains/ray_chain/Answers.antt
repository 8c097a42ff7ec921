use Rattle.std.proofs.Common.{subst}
use Rattle.std.specs.Prelude.{IfOk, IfErr}
use Rattle.linear_simplex.specs.Decided.{IsAnswerOf, IsLinearStopOf, IsTrueOf}
use Rattle.form_problems.proofs.chains.ray_chain.Goals as goal

pub feasible-requires-clause-problem : goal.feasible-requires-clause-problem
feasible-requires-clause-problem c = c.in_ok-rays.ensures.problem

pub feasible-requires-clause-few : goal.feasible-requires-clause-few
feasible-requires-clause-few c = c.in_ok-rays.ensures.few c.requires.0 c.requires.1

pub returns-clause-answer : goal.returns-clause-answer
returns-clause-answer c = subst (λ q. IfOk c.feasible.result (IsAnswerOf q c.args.bases)) c.in_ok-rays.ensures.exact c.feasible.ensures.answer

pub returns-clause-right : goal.returns-clause-right
returns-clause-right c = subst (λ q. IfOk c.feasible.result (IsTrueOf q)) c.in_ok-rays.ensures.exact c.feasible.ensures.right

pub returns-clause-stop : goal.returns-clause-stop
returns-clause-stop c = subst (λ q. IfErr c.feasible.result (IsLinearStopOf q c.args.bases)) c.in_ok-rays.ensures.exact c.feasible.ensures.stop
