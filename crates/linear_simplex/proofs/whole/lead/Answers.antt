use Rattle.std.proofs.Common.{subst, ◌∙◌}
use Rattle.std.specs.Prelude.{IfSome}
use Rattle.linear_simplex.specs.Turns.{Gives}
use Rattle.linear_simplex.proofs.whole.lead.Goals as goal

pub answer-requires : goal.answer-requires
answer-requires c =
    let run = c.run-steps.ensures.run c.requires.held.0 c.requires.held.1 in
    (c.requires.held.0, run.held.basis, run.held.holds)

pub returns-in-Some : goal.returns-in-Some
returns-in-Some c = λ p h.
    let run = c.run-steps.ensures.run p h in
    record {
      steps = c.run-steps.result.0;
      within = c.run-steps.ensures.within;
      basis = run.held.basis;
      ends = run.held.ends;
      gives = subst (λ o. IfSome o (Gives p run.held.basis)) c.in-Some.is (c.in_ok-answer.ensures p run.held.basis run.held.holds run.end);
    }

pub returns : goal.returns
returns c = λ p h.
    let run = c.run-steps.ensures.run p h in
    record {
      within = c.run-steps.ensures.within;
      basis = run.held.basis;
      ends = run.held.ends;
      columns_are = c.in_ok-copied.ensures ∙ c.columns.ensures ∙ run.held.holds.columns;
    }
