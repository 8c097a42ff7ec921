-- Right sides and ranges by the rows of a file.
use Rattle.std.specs.Prelude.{ℕ, List, [], map, Option}
use Rattle.rational.specs.Rational.{ℚ}
use Rattle.mps_grammar.specs.Told.{Telling}
use Rattle.mps_grammar.specs.Programs.{value_at, value_told}

-- the right side of each of these rows; one that isn't told is 0
abbrev pub rights_of : List (List ℕ) → List Telling → List ℚ
rights_of names told = map (λ name. value_told told [] name) names

-- the range of each of these rows, where there is one
abbrev pub ranges_of : List (List ℕ) → List Telling → List (Option ℚ)
ranges_of names told = map (λ name. value_at told [] name) names
