-- The numbers of each two columns.
use Rattle.std.specs.Prelude.{◌≡◌, ℕ, List, map, length}
use Rattle.rational.specs.Rational.{ℚ}
use Rattle.exact_matrix.specs.Grid.{Grid}
use Rattle.named_things.specs.Named.{names_of}
use Rattle.mps_grammar.specs.Told.{Told}
use Rattle.mps_grammar.specs.Programs.{value_told}

-- a number for each two names
abbrev pub square_of : List (List ℕ) → (List ℕ → List ℕ → ℚ) → List (List ℚ)
square_of names f = map (λ one. map (λ other. f one other) names) names

-- a table with the number that is told of each two columns, or 0
pub record IsPairTable (told : Told) (table : Grid ℚ) : Type 0 where
  pub columns : table.columns ≡ length told.columns
  pub rows : table.rows ≡ square_of (names_of told.columns) (value_told told.pairs)
