-- A price step along a line to its minimum.
use Rattle.std.proofs.Common.{refl, inr, [], ◌∷◌}
use Rattle.algebra.proofs.Polynomial.{minus, ◌⊕◌, ◌⊗◌, ◌≐◌, lit}
use Rattle.algebra.proofs.Solver.{ring}
use Rattle.rational.specs.Rational.{zero_ℚ, one_ℚ}
use Rattle.rational.proofs.Field.{rationals}
use Rattle.rational.proofs.OrderLaws.{not-le_of_lt, le_of_eq}
use Rattle.quad_solve_law.specs.Problems.{parabola}
use Rattle.quad_solve_law.specs.Steps.{LeadsDown, IsPriceStep}
use Rattle.quad_solve_law.proofs.Directions.{one_nonneg}
use Rattle.quad_solve_law.proofs.Descents.{entry_nonneg}

pub one_leads_down : LeadsDown parabola (zero_ℚ ∷ []) (one_ℚ ∷ [])
one_leads_down = record {
  size = refl;
  equal = refl;
  falls = ring rationals [] (((lit 1 ⊗ lit 0 ⊕ lit 0) ⊕ minus (lit 1)) ⊗ lit 1 ⊕ lit 0 ≐ minus (lit 1)) refl;
  lessens = λ j b. absurd (not-le_of_lt b (entry_nonneg (one_ℚ ∷ []) one_nonneg j));
}

pub one_is_the_step : IsPriceStep parabola (zero_ℚ ∷ []) (one_ℚ ∷ []) one_ℚ
one_is_the_step = record {
  within = λ j b. absurd (not-le_of_lt b (entry_nonneg (one_ℚ ∷ []) one_nonneg j));
  minimum = le_of_eq (ring rationals [] (lit 1 ⊗ (lit 1 ⊗ (lit 1 ⊗ lit 1 ⊕ lit 0) ⊕ lit 0) ≐ lit 1) refl);
  met = inr (ring rationals [] (lit 1 ⊗ (lit 1 ⊗ (lit 1 ⊗ lit 1 ⊕ lit 0) ⊕ lit 0) ≐ lit 1) refl);
}
