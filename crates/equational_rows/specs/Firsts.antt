-- The first equation of each row of the file.
use Rattle.std.specs.Prelude.{ℕ, ◌+◌, List, [], ◌∷◌, drop, Bool, false}
use Rattle.program_law.specs.declared.Row.{Row}
use Rattle.equational_law.specs.Equations.{Equation, count_by, is_negated}
use Rattle.equational_rows.specs.declared.equations.First.{First}

-- whether the first of these equations is negated
abbrev pub begins_negated : List Equation → Bool
begins_negated [] = false
begins_negated (e ∷ es) = is_negated e

-- the first equation of each row, where k equations come before these
abbrev pub firsts_from : ℕ → List Row → List Equation → List First
firsts_from k [] es = []
firsts_from k (s ∷ ss) es =
    let count = (count_by s.low s.high).0 in
    record { equation = k; negated = begins_negated es } ∷ firsts_from (k + count) ss (drop count es)
