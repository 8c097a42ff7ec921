-- A row divided one entry after another: `done` is what is written before.
use Rattle.std.specs.Prelude.{List, [], ◌∷◌, ◌++◌, Result, Ok}
use Rattle.rational.specs.Rational.{ℚ}
use Rattle.frac_core.specs.Parts.{max_part}
use Rattle.frac_core.specs.declared.fractions.Refused.{Refused}
use Rattle.elimination_law.specs.Calculation.{divide_step}
use Rattle.frac_core.specs.Calculated.{◌>>=◌, answered}

-- each entry divided by d
abbrev pub divided_onto : ℚ → List ℚ → List ℚ → Result (List ℚ) Refused
divided_onto d done [] = Ok done
divided_onto d done (x ∷ r) = answered (divide_step max_part d x) >>= λ q. divided_onto d (done ++ q ∷ []) r
