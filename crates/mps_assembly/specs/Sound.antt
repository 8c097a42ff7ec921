-- What lines without a fault tell.
use Rattle.std.specs.Prelude.{◌≡◌, ◌≤◌, true, false, List, [], ◌∷◌, length, IsSome, ⊤}
use Rattle.std.specs.List.{list_any}
use Rattle.program_law.specs.Program.{most_rows}
use Rattle.mps_tokens.specs.declared.words.Section.{Section}
use Rattle.mps_grammar.specs.Told.{Told, Telling, is_columns, is_quadratic, program_rows, objective_in, is_told}
use Rattle.mps_grammar.specs.Programs.{gives_pairs_once}

-- each pair of names is told once at most, in either order
abbrev pub AreToldOnce : List Telling → Type 0
AreToldOnce [] = ⊤
AreToldOnce (t ∷ earlier) = (is_told earlier t.column t.row ≡ false) × (is_told earlier t.row t.column ≡ false) × AreToldOnce earlier

-- one quadratic section at most
abbrev pub HaveOneQuadratic : List Section → Type 0
HaveOneQuadratic [] = ⊤
HaveOneQuadratic (s ∷ earlier) = (is_quadratic s ≡ true → list_any is_quadratic earlier ≡ false) × HaveOneQuadratic earlier

-- what lines without a fault tell: a program's few rows, an objective before COLUMNS, and each pair of Q once where it stands for both triangles
pub record IsSound (told : Told) : Type 0 where
  pub few_rows : length (program_rows told.rows) ≤ most_rows
  pub objective : list_any is_columns told.sections ≡ true → IsSome (objective_in told.rows)
  pub one_quadratic : HaveOneQuadratic told.sections
  pub no_pairs : list_any is_quadratic told.sections ≡ false → told.pairs ≡ []
  pub pairs : gives_pairs_once told ≡ true → AreToldOnce told.pairs
