-- Names that differ, and names by their places.
use Rattle.std.specs.Prelude.{◌≡◌, ℕ, List, [], ◌∷◌, None, slice_index_or, ⊤}
use Rattle.program_law.specs.Places.{place_of}

-- no name stands twice
abbrev pub Differ : List (List ℕ) → Type 0
Differ [] = ⊤
Differ (n ∷ ns) = (place_of ns n ≡ None) × Differ ns

abbrev pub name_at : List (List ℕ) → ℕ → List ℕ
name_at names k = slice_index_or names k []
