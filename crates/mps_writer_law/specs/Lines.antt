-- Lines as they are written.
use Rattle.std.specs.Prelude.{ℕ, zero, suc, Bool, true, false, List, [], ◌∷◌, ◌++◌, if◌then◌else◌}
use Rattle.std.specs.List.{flat_map}
use Rattle.rational.specs.Rational.{ℚ}
use Rattle.frac_core.specs.Text.{text_of}
use Rattle.rational.specs.Tests.{is_zero}
use Rattle.mps_tokens.specs.Written.{ended, spaced}

-- each field behind one blank
abbrev pub data_line : List (List ℕ) → List ℕ
data_line fields = flat_map spaced fields

-- each line with its line feed
abbrev pub lines_text : List (List ℕ) → List ℕ
lines_text lines = flat_map ended lines

-- a section's word and its lines; a section without a line isn't written
abbrev pub section : List ℕ → List (List ℕ) → List (List ℕ)
section word [] = []
section word (line ∷ lines) = word ∷ line ∷ lines

-- one after another, for each place below n in order
abbrev pub each : {A : Type 0} → ℕ → (ℕ → List A) → List A
each zero f = []
each (suc n) f = each n f ++ f n

-- a line that ends in a number
abbrev pub number_line : List (List ℕ) → ℚ → List ℕ
number_line fields value = data_line (fields ++ text_of value ∷ [])

-- the same, where the number isn't 0
abbrev pub unless_zero : List (List ℕ) → ℚ → List (List ℕ)
unless_zero fields value = if is_zero value then [] else number_line fields value ∷ []

-- lines of a section that is begun, or behind its word
abbrev pub behind : Bool → List ℕ → List (List ℕ) → List (List ℕ)
behind true word lines = lines
behind false word lines = section word lines

abbrev pub has_lines : List (List ℕ) → Bool
has_lines [] = false
has_lines (line ∷ lines) = true
