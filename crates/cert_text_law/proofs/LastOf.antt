-- A list whose last thing changes.
use Rattle.std.proofs.Common.{◌≡◌, List, [], ◌∷◌, ◌++◌, refl, sym, ap, ◌∙◌}
use Rattle.cert_text_law.specs.Told.{on_last}

pub on_last-append : {A : Type 0} (f : A → A) (xs : List A) (x : A) → on_last f (xs ++ x ∷ []) ≡ xs ++ f x ∷ []
on_last-append f [] x = refl
on_last-append f (y ∷ []) x = refl
on_last-append {A = A} f (y ∷ z ∷ zs) x = ap (λ (l : List A). y ∷ l) (on_last-append f (z ∷ zs) x)

pub last_changed : {A : Type 0} (f : A → A) (done : List A) (x y : A) (now : List A) → done ++ x ∷ [] ≡ now → y ≡ f x → done ++ y ∷ [] ≡ on_last f now
last_changed f done x y now e h = ap (λ z. done ++ z ∷ []) h ∙ sym (on_last-append f done x) ∙ ap (on_last f) e

pub none_changed : {A : Type 0} (f : A → A) (now : List A) → [] ≡ now → [] ≡ on_last f now
none_changed f now e = ap (on_last f) e
