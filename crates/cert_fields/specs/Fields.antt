-- The fields of a line, behind its word.
use Rattle.std.specs.Prelude.{ℕ, ◌==◌, ◌&&◌, not, Bool, List, [], ◌∷◌, length, slice_index_or}
use Rattle.std.specs.List.{list_all}

-- what stands behind the word
abbrev pub behind : List (List ℕ) → List (List ℕ)
behind [] = []
behind (word ∷ fields) = fields

-- a field behind the word
abbrev pub field : List (List ℕ) → ℕ → List ℕ
field fields k = slice_index_or fields k []

abbrev pub is_filled : List ℕ → Bool
is_filled bytes = not (length bytes == 0)

-- so many fields behind the word, each behind one blank, and no blank at the end
abbrev pub has_fields : ℕ → List (List ℕ) → Bool
has_fields n fields = (length fields == n) && list_all is_filled fields
