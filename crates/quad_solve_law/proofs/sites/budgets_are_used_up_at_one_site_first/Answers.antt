use Rattle.quad_solve_law.proofs.FirstSpent.{one_site, no_answer_beside, answer_or_spent}
use Rattle.quad_solve_law.proofs.sites.budgets_are_used_up_at_one_site_first.Goals as goal

pub returns : goal.returns
returns c = record {
  one = λ p region budget one other is wide semi. one_site p region is wide semi budget one other;
  not_both = λ p region budget site answer is wide semi. no_answer_beside p region is wide semi budget site answer;
  some = λ p region budget is wide semi. answer_or_spent p region is wide semi budget;
}
