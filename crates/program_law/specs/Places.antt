-- Names by their places.
use Rattle.std.specs.Prelude.{ℕ, List, [], ◌∷◌, suc, Option, Some, None, if◌then◌else◌}
use Rattle.std.specs.Option.{option_map}
use Rattle.std.specs.Str.{bytes_eq}

-- the place of the first such name
abbrev pub place_of : List (List ℕ) → List ℕ → Option ℕ
place_of [] name = None
place_of (n ∷ ns) name = if bytes_eq name n then Some 0 else option_map suc (place_of ns name)
