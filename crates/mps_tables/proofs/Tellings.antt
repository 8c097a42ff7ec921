-- Numbers in order, as tellings with the last one first.
use Rattle.std.proofs.Common.{◌≡◌, ℕ, zero, suc, ◌+◌, ◌<◌, List, [], ◌∷◌, map, reverse, take, length, get_or, Some, refl, sym, ap, ◌∙◌, arith}
use Rattle.std.specs.List.{AllByRecursion}
use Rattle.std.proofs.lemmas.List.{map_push, take_more, reverse-append}
use Rattle.program_law.specs.Places.{place_of}
use Rattle.named_things.specs.Names.{Differ, name_at}
use Rattle.named_things.proofs.NameLemmas.{eq_self, ne_from, none_some}

-- one more of them
pub reversed-more : {X Y : Type 0} (f : X → Y) (xs : List X) (k : ℕ) (d : X) → k < length xs → reverse (map f (take (k + 1) xs)) ≡ f (get_or xs k d) ∷ reverse (map f (take k xs))
reversed-more f xs k d h =
    ap (λ (l : List _). reverse (map f l)) (take_more xs k d h) ∙ ap reverse (map_push f (take k xs) (get_or xs k d)) ∙ reverse-append (map f (take k xs)) (f (get_or xs k d) ∷ [])

-- what holds of each of them
pub each_at : {X : Type 0} (P : X → Type 0) (xs : List X) (k : ℕ) (d : X) → AllByRecursion P xs → k < length xs → P (get_or xs k d)
each_at P [] k d all h = absurd (omega (arith, h))
each_at P (x ∷ xs) zero d all h = all.0
each_at P (x ∷ xs) (suc k) d all h = each_at P xs k d all.1 (omega (arith, h))

-- a name that is found among others isn't first, where names differ
pub place-name_at : (names : List (List ℕ)) (k : ℕ) → Differ names → k < length names → place_of names (name_at names k) ≡ Some k
place-name_at [] k differ h = absurd (omega (arith, h))
place-name_at (n ∷ ns) zero differ h = rw (eq_self n) refl
place-name_at (n ∷ ns) (suc k) differ h =
    let again : place_of ns (name_at ns k) ≡ Some k = place-name_at ns k differ.1 (omega (arith, h)) in
    let other = ne_from (name_at ns k) n (λ e. none_some k (sym differ.0 ∙ ap (place_of ns) (sym e) ∙ again)) in
    rw (other, again) refl
