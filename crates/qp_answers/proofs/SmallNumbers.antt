-- Things are shown one after the other: where the rest of them suffices, the rest without the first does.
use Rattle.std.proofs.Common.{◌≡◌, ℕ, ◌+◌, ◌<◌, ◌≤◌, List, ◌∷◌, length, drop, Some, sym, ap, subst, ◌∙◌}
use Rattle.std.specs.Prelude.{slice_get}
use Rattle.std.specs.List.{AllByRecursion}
use Rattle.std.proofs.lemmas.List.{drop_all, drop_more}
use Rattle.std.proofs.lemmas.Option.{slice_get_within, get_or_from_slice_get}

pub one_shown : {A : Type 0} (P : A → Type 0) (xs : List A) (k : ℕ) (x : A) → slice_get xs k ≡ Some x → P x → (AllByRecursion P (drop k xs) → AllByRecursion P xs) → AllByRecursion P (drop (k + 1) xs) → AllByRecursion P xs
one_shown P xs k x e h enough rest =
    let lt : k < length xs = slice_get_within xs k x e in
    let turn : drop k xs ≡ x ∷ drop (k + 1) xs = drop_more xs k x lt ∙ ap (λ y. y ∷ drop (k + 1) xs) (get_or_from_slice_get xs k x x e) in
    enough (subst (AllByRecursion P) (sym turn) (h, rest))

pub all_shown : {A : Type 0} (P : A → Type 0) (xs : List A) (k : ℕ) → length xs ≤ k → (AllByRecursion P (drop k xs) → AllByRecursion P xs) → AllByRecursion P xs
all_shown P xs k le enough = enough (subst (AllByRecursion P) (sym (drop_all k xs le)) tt)
