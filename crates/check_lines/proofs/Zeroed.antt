-- A list whose first entries were put to 0.
use Rattle.std.proofs.Common.{◌≡◌, ℕ, zero, suc, List, [], ◌∷◌, length, set, refl, ap}
use Rattle.rational.specs.Rational.{ℚ, zero_ℚ}
use Rattle.program_law.specs.Changes.{zeros}

abbrev pub zeroed : ℕ → List ℚ → List ℚ
zeroed zero xs = xs
zeroed (suc n) [] = []
zeroed (suc n) (x ∷ xs) = zero_ℚ ∷ zeroed n xs

pub zeroed_more : (n : ℕ) (xs : List ℚ) → set (zeroed n xs) n zero_ℚ ≡ zeroed (suc n) xs
zeroed_more zero [] = refl
zeroed_more zero (x ∷ xs) = refl
zeroed_more (suc n) [] = refl
zeroed_more (suc n) (x ∷ xs) = ap (λ (l : List ℚ). zero_ℚ ∷ l) (zeroed_more n xs)

pub all_zeroed : (xs : List ℚ) → zeroed (length xs) xs ≡ zeros (length xs)
all_zeroed [] = refl
all_zeroed (x ∷ xs) = ap (λ (l : List ℚ). zero_ℚ ∷ l) (all_zeroed xs)

pub zeroed_length : (n : ℕ) (xs : List ℚ) → length (zeroed n xs) ≡ length xs
zeroed_length zero xs = refl
zeroed_length (suc n) [] = refl
zeroed_length (suc n) (x ∷ xs) = ap suc (zeroed_length n xs)
