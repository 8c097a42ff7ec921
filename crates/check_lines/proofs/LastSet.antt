-- The last square of a list is changed in its place.
use Rattle.std.proofs.Common.{◌≡◌, ℕ, zero, suc, List, [], ◌∷◌, length, get_or, set, ap, ◌∙◌, arith}
use Rattle.program_law.specs.declared.Square.{Square}
use Rattle.cert_text_law.specs.Told.{on_last}

pub last_set : (f : Square → Square) (xs : List Square) (n : ℕ) (x y : Square) → x ≡ get_or xs n x → suc n ≡ length xs → y ≡ f x → set xs n y ≡ on_last f xs
last_set f [] n x y e k is = absurd (omega arith)
last_set f (z ∷ []) zero x y e k is = ap (λ (l : Square). l ∷ []) (is ∙ ap f e)
last_set f (z ∷ []) (suc n) x y e k is = absurd (omega arith)
last_set f (z ∷ a ∷ xs) zero x y e k is = absurd (omega arith)
last_set f (z ∷ a ∷ xs) (suc n) x y e k is = ap (λ (l : List Square). z ∷ l) (last_set f (a ∷ xs) n x y e (omega arith) is)
