use Rattle.std.proofs.Common.{◌≡◌, ◌≤◌, ◌+◌, ◌*◌, ℕ, suc, length, subst, arith}
use Rattle.std.specs.Prelude.{◌^◌}
use Rattle.quad_solve_law.proofs.WalkLengths.{few_prices, few_shrinks, few_points, spent_few}
use Rattle.quad_solve_law.proofs.walks.walks_are_short.Goals as goal

pub returns : goal.returns
returns c = record {
  prices = λ n f x walk form semi start h. let a = few_prices n f form semi x start walk h in omega (arith, a);
  shrinks = λ n f x walk form semi start. few_shrinks n f form semi x start walk;
  points = λ n f x walk form semi start h. let e : suc n ≡ n + 1 = omega arith in subst (λ (k : ℕ). length walk ≤ 2 ^ n * k) e (few_points n f form semi x start walk h);
  budget = spent_few;
}
