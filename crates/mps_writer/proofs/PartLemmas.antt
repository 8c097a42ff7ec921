-- Names found by their places.
use Rattle.std.specs.Prelude.{◌≡◌, ℕ, List, [], map, Some, slice_index_or, slice_get}
use Rattle.std.proofs.Common.{sym}
use Rattle.std.proofs.lemmas.Option.{get_or_from_slice_get}
use Rattle.named_things.specs.Named.{names_of}

pub name_found : {A : Type 0} (things : List (List ℕ × A)) (i : ℕ) (name : List ℕ) → slice_get (names_of things) i ≡ Some name → name ≡ slice_index_or (map (λ thing. thing.0) things) i []
name_found things i name e = sym (get_or_from_slice_get (names_of things) i name [] e)
