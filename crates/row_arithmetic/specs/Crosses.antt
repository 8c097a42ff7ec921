-- The order of rows divided by their coordinates, by cross products: no quotient is formed, and the denominators fall out.
use Rattle.std.specs.Prelude.{◌≡◌, ℕ, ◌<◌, ℤ, pos, ◌*ℤ◌, ◌<ℤ◌, List, [], ◌∷◌, ◌⊎◌, Option, Some, None}
use Rattle.row_arithmetic.specs.Rows.{Row, number, row_in}

-- at the first place where x u and s v differ, for the numbers s and u above 0, the first is less: x / s is below y / u there
abbrev pub IsCrossBelow : ℤ → List ℤ → ℤ → List ℤ → Type 0
IsCrossBelow s [] u ys = ⊥
IsCrossBelow s (x ∷ xs) u [] = ⊥
IsCrossBelow s (x ∷ xs) u (y ∷ ys) = ((x *ℤ u) <ℤ (y *ℤ s)) ⊎ ((x *ℤ u ≡ y *ℤ s) × IsCrossBelow s xs u ys)

-- of the first n rows with t above 0 none is below this one, each divided by its t; and it is one of them. Or there is none.
abbrev pub IsLeast : List ℤ → List Row → ℕ → Option ℕ → Type 0
IsLeast t rows n None = (k : ℕ) → k < n → ¬ (pos 0 <ℤ number t k)
IsLeast t rows n (Some l) =
    (l < n) × (pos 0 <ℤ number t l)
    × ((k : ℕ) → k < n → pos 0 <ℤ number t k → ¬ (IsCrossBelow (number t k) (row_in rows k).numbers (number t l) (row_in rows l).numbers))
