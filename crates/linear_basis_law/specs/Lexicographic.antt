-- Lists of numbers in lexicographic order: the first place at which they differ decides.
use Rattle.std.specs.Prelude.{◌≡◌, List, [], ◌∷◌, ◌⊎◌}
use Rattle.rational.specs.Rational.{ℚ, zero_ℚ}
use Rattle.rational.specs.Order.{◌<ℚ◌}

-- the first entry that is not 0 is above 0, and there is one
abbrev pub IsLexPositive : List ℚ → Type 0
IsLexPositive [] = ⊥
IsLexPositive (x ∷ u) = (zero_ℚ <ℚ x) ⊎ ((x ≡ zero_ℚ) × IsLexPositive u)

-- at the first place where they differ the left one is less, and there is one
abbrev pub IsLexBelow : List ℚ → List ℚ → Type 0
IsLexBelow [] v = ⊥
IsLexBelow (x ∷ u) [] = ⊥
IsLexBelow (x ∷ u) (y ∷ v) = (x <ℚ y) ⊎ ((x ≡ y) × IsLexBelow u v)
