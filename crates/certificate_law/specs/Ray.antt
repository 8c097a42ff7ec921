-- A direction along which the values of a program fall without end.
use Rattle.std.specs.Prelude.{◌≡◌, List, [], ◌∷◌, OnSome}
use Rattle.rational.specs.Rational.{ℚ, zero_ℚ}
use Rattle.rational.specs.Order.{◌≤ℚ◌, ◌<ℚ◌}
use Rattle.program_law.specs.declared.Row.{Row}
use Rattle.rational.specs.Vectors.{dot, rows_dot}
use Rattle.program_law.specs.Program.{Program, sides, bounds}

-- a change that leads out of no side: at least 0 where there is a low side, at most 0 where there is a high one
pub record KeepsSides (s : Row) (d : ℚ) : Type 0 where
  pub low : OnSome s.low (zero_ℚ ≤ℚ d)
  pub high : OnSome s.high (d ≤ℚ zero_ℚ)

-- as many numbers as sides, each keeping its own
abbrev pub AllKeepSides : List Row → List ℚ → Type 0
AllKeepSides [] [] = Unit {0}
AllKeepSides [] (d ∷ ds) = ⊥
AllKeepSides (s ∷ ss) [] = ⊥
AllKeepSides (s ∷ ss) (d ∷ ds) = KeepsSides s d × AllKeepSides ss ds

abbrev pub AreZero : List ℚ → Type 0
AreZero [] = Unit {0}
AreZero (x ∷ xs) = (x ≡ zero_ℚ) × AreZero xs

-- A d keeps the rows' sides, d keeps the columns' bounds, Q d = 0, and c d is below 0
pub record IsRay (p : Program) (d : List ℚ) : Type 0 where
  pub rows : AllKeepSides (sides p) (rows_dot p.entries d)
  pub columns : AllKeepSides (bounds p) d
  pub flat : AreZero (rows_dot p.pairs d)
  pub falls : dot p.costs d <ℚ zero_ℚ
