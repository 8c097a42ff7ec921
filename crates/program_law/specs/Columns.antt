-- The same said of a point's columns, a list of exact numbers.
use Rattle.std.specs.Prelude.{◌≡◌, List, [], ◌∷◌, Bool, true}
use Rattle.rational.specs.Rational.{ℚ, ◌+ℚ◌, ◌*ℚ◌}
use Rattle.program_law.specs.declared.Row.{Row}
use Rattle.rational.specs.Vectors.{dot, rows_dot, form}
use Rattle.program_law.specs.Program.{Program, sides, marks}
use Rattle.program_law.specs.Region.{Region}
use Rattle.program_law.specs.Point.{IsWithin}
use Rattle.program_law.specs.Value.{half}

-- as many numbers as sides, each within its own
abbrev pub AllWithin : List Row → List ℚ → Type 0
AllWithin [] [] = Unit {0}
AllWithin [] (x ∷ xs) = ⊥
AllWithin (s ∷ ss) [] = ⊥
AllWithin (s ∷ ss) (x ∷ xs) = IsWithin s x × AllWithin ss xs

abbrev pub IsWhole : ℚ → Type 0
IsWhole x = x.den ≡ 1

-- whole where the column is marked
abbrev pub AreWholeOn : List Bool → List ℚ → Type 0
AreWholeOn [] xs = Unit {0}
AreWholeOn (m ∷ ms) [] = Unit {0}
AreWholeOn (m ∷ ms) (x ∷ xs) = (m ≡ true → IsWhole x) × AreWholeOn ms xs

-- x is a point of the region, the marks left out
pub record IsRelaxedPoint (program : Program) (region : Region) (x : List ℚ) : Type 0 where
  pub rows : AllWithin (sides program) (rows_dot program.entries x)
  pub columns : AllWithin region x

-- x is a point of the region that keeps the marks
pub record IsPoint (program : Program) (region : Region) (x : List ℚ) : Type 0 where
  pub relaxed : IsRelaxedPoint program region x
  pub whole : AreWholeOn (marks program) x

-- ½ x^T Q x + c x + c0
abbrev pub value : Program → List ℚ → ℚ
value program x = half *ℚ form program.pairs x x +ℚ dot program.costs x +ℚ program.constant
