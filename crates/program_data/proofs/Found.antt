-- What is found at a place.
use Rattle.std.specs.Prelude.{◌≡◌, ℕ, zero, suc, List, [], ◌∷◌, map, Some, slice_index_or, slice_get}
use Rattle.std.proofs.Common.{ap, sym}
use Rattle.named_things.specs.Named.{things_of}

some_is : {A : Type 0} (x y : A) → Some x ≡ Some y → x ≡ y
some_is x y e = cc

-- a part of a thing is found in the list of these parts
pub part_found : {A B : Type 0} (f : A → B) (things : List (List ℕ × A)) (i : ℕ) (thing : A) (d : B) → slice_get (things_of things) i ≡ Some thing → f thing ≡ slice_index_or (map (λ (t : List ℕ × A). f t.1) things) i d
part_found f [] i thing d e = cc
part_found f (t ∷ things) zero thing d e = ap f (sym (some_is t.1 thing e))
part_found f (t ∷ things) (suc i) thing d e = part_found f things i thing d e
