-- Names by their places.
use Rattle.std.proofs.Common.{◌≡◌, ℕ, suc, List, [], ◌∷◌, length, Some, refl, ap, sym}
use Rattle.std.specs.Prelude.{slice_get}
use Rattle.std.proofs.lemmas.Option.{get_or_from_slice_get}
use Rattle.named_things.specs.Named.{names_of}
use Rattle.cert_fields.specs.Names.{name_at}

pub count_names : {A : Type 0} (things : List (List ℕ × A)) → length (names_of things) ≡ length things
count_names [] = refl
count_names (t ∷ ts) = ap (λ (n : ℕ). suc n) (count_names ts)

pub name_found : (names : List (List ℕ)) (place : ℕ) (name : List ℕ) → slice_get names place ≡ Some name → name ≡ name_at names place
name_found names place name e = sym (get_or_from_slice_get names place name [] e)
