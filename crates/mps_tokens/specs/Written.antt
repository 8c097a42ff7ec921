-- Lines and fields as they are written.
use Rattle.std.specs.Prelude.{◌≡◌, ℕ, ◌-◌, ◌==◌, true, false, List, [], ◌∷◌, ◌++◌, length, slice_index, All}
use Rattle.std.specs.List.{AllByRecursion}
use Rattle.mps_tokens.specs.Lines.{is_line_feed}
use Rattle.mps_tokens.specs.FieldsOf.{is_blank, is_filled}

-- a line and its end
abbrev pub ended : List ℕ → List ℕ
ended line = line ++ 10 ∷ []

-- a field behind a blank
abbrev pub spaced : List ℕ → List ℕ
spaced field = 32 ∷ field

-- one line: it has no line feed, and doesn't end in a carriage return
pub record IsLine (line : List ℕ) : Type 0 where
  pub one_line : All (λ b. is_line_feed b ≡ false) line
  pub no_return : (slice_index line (length line - 1) == 13) ≡ false

-- one field: it is not empty, and has no blank
pub record IsField (field : List ℕ) : Type 0 where
  pub filled : is_filled field ≡ true
  pub unbroken : AllByRecursion (λ b. is_blank b ≡ false) field
