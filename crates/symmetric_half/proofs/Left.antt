-- A row that was taken from, as the calculation has it.
use Rattle.std.specs.Prelude.{List, Result, Ok, Err}
use Rattle.std.proofs.Common.{subst, ◌∙◌, ap, map}
use Rattle.std.proofs.lemmas.List.{map-id}
use Rattle.rational.specs.Rational.{ℚ}
use Rattle.frac_core.specs.Parts.{max_part}
use Rattle.frac_core.specs.Row.{IsRow, row_less}
use Rattle.frac_core.specs.declared.fractions.Refused.{Refused}
use Rattle.frac_core.specs.Calculated.{Leaves}
use Rattle.symmetric_half.specs.Chain.{row_answered}

-- the row that is left of fractions, which are their own numbers
pub row_left : (result : Result (Unit {0}) Refused) (row : List ℚ) (f : ℚ) (xs ps : List ℚ) → IsRow (λ q. q) result row (row_less max_part f (map (λ q. q) xs) (map (λ q. q) ps))
    → Leaves row result (row_answered (row_less max_part f xs ps))
row_left result row f xs ps h =
    by result (subst (λ (l : List ℚ). IsRow (λ q. q) result row (row_less max_part f l ps)) (map-id xs) (subst (λ (l : List ℚ). IsRow (λ q. q) result row (row_less max_part f (map (λ q. q) xs) l)) (map-id ps) h))
  where
    by : (result : Result (Unit {0}) Refused) → IsRow (λ q. q) result row (row_less max_part f xs ps) → Leaves row result (row_answered (row_less max_part f xs ps))
    by (Ok u) k = ap row_answered k ∙ ap (λ (l : List ℚ). Ok l) (map-id row)
    by (Err r) k = ap row_answered k
