-- Lines with a column beside the eliminated ones left out.
use Rattle.std.specs.Prelude.{ℕ, zero, suc, List, [], ◌∷◌}
use Rattle.rational.specs.Rational.{ℚ}
use Rattle.elimination_law.specs.Elimination.{Line}

-- a row without its entry at i
abbrev pub without : ℕ → List ℚ → List ℚ
without i [] = []
without zero (x ∷ row) = row
without (suc i) (x ∷ row) = x ∷ without i row

abbrev pub line_without : ℕ → Line → Line
line_without i l = record { pivot = l.pivot; entries = without i l.entries }
