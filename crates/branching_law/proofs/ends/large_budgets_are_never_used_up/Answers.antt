use Rattle.std.specs.Prelude.{ℕ, ◌+◌, ◌≤◌}
use Rattle.std.proofs.Common.{arith}
use Rattle.branching_law.proofs.BelowRoots.{spent_site_small}
use Rattle.branching_law.proofs.SearchEnds.{never_used_up}
use Rattle.branching_law.proofs.ends.large_budgets_are_never_used_up.Goals as goal

clash : (b n : ℕ) → b + 2 ≤ n → n ≤ b → ⊥
clash b n h k = omega (arith, h, k)

pub returns : goal.returns
returns c = record {
  bases = λ p bases path site is spent large. clash bases _ (spent_site_small p bases path site is spent) large;
  boxes = never_used_up;
}
