-- A list of numbers with their signs changed, one after another.
use Rattle.std.proofs.Common.{◌≡◌, ℕ, ◌+◌, ◌≤◌, ◌<◌, List, [], ◌∷◌, ◌++◌, length, map, take, get_or, sym, ap, ◌∙◌, append_assoc}
use Rattle.std.proofs.lemmas.List.{map_push, take_all, take_more}
use Rattle.rational.specs.Rational.{ℚ, neg_ℚ}

pub negated_more : (xs was now next : List ℚ) (i : ℕ) (x y : ℚ) → i < length xs → x ≡ get_or xs i x → y ≡ neg_ℚ x → now ≡ was ++ map neg_ℚ (take i xs) → next ≡ now ++ y ∷ []
    → next ≡ was ++ map neg_ℚ (take (i + 1) xs)
negated_more xs was now next i x y h r e k p =
    p ∙ ap (λ l. l ++ y ∷ []) k ∙ append_assoc was (map neg_ℚ (take i xs)) (y ∷ [])
    ∙ ap (λ l. was ++ l) (ap (λ z. map neg_ℚ (take i xs) ++ z ∷ []) (e ∙ ap neg_ℚ r) ∙ sym (map_push neg_ℚ (take i xs) (get_or xs i x)) ∙ ap (map neg_ℚ) (sym (take_more xs i x h)))

pub negated_all : (xs was now : List ℚ) (i : ℕ) → length xs ≤ i → now ≡ was ++ map neg_ℚ (take i xs) → now ≡ was ++ map neg_ℚ xs
negated_all xs was now i h k = k ∙ ap (λ l. was ++ map neg_ℚ l) (take_all i xs h)
