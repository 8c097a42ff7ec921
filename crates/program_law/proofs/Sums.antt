-- Sums of products, over the places of a list.
use Rattle.std.specs.Prelude.{◌≡◌, ℕ, zero, suc, pos, List, [], ◌∷◌}
use Rattle.std.proofs.Common.{sym, ◌∙◌, ap, refl}
use Rattle.rational.specs.Rational.{ℚ, zero_ℚ, ◌+ℚ◌, ◌-ℚ◌, ◌*ℚ◌}
use Rattle.rational.proofs.Field.{*ℚ_comm, +ℚ_zero}
use Rattle.program_law.proofs.Ring.{mul-zero, ring_by, x0, x1, x2, x3, x4}
use Rattle.algebra.proofs.Polynomial.{◌⊕◌, ◌⊝◌, ◌⊗◌, num}
use Rattle.rational.specs.Vectors.{dot, rows_dot, form, row_at, column}
use Rattle.rational.specs.Sums.{entry}

pub dot_comm : (xs ys : List ℚ) → dot xs ys ≡ dot ys xs
dot_comm [] [] = refl
dot_comm [] (y ∷ ys) = refl
dot_comm (x ∷ xs) [] = refl
dot_comm (x ∷ xs) (y ∷ ys) = ap (λ z. z +ℚ dot xs ys) (*ℚ_comm x y) ∙ ap (λ z. y *ℚ x +ℚ z) (dot_comm xs ys)

-- the sum of f j * x_j
unfoldable pub along : (ℕ → ℚ) → List ℚ → ℚ
along f [] = zero_ℚ
along f (x ∷ xs) = f zero *ℚ x +ℚ along (λ j. f (suc j)) xs

pub along_zero : (xs : List ℚ) → along (λ _. zero_ℚ) xs ≡ zero_ℚ
unfolding along
along_zero [] = refl
along_zero (x ∷ xs) = ap (λ z. zero_ℚ *ℚ x +ℚ z) (along_zero xs) ∙ ring_by (x ∷ []) (num (pos 0) ⊗ x0 ⊕ num (pos 0)) (num (pos 0)) refl

pub dot_along : (row xs : List ℚ) → dot row xs ≡ along (entry row) xs
unfolding along
dot_along [] xs = sym (along_zero xs)
dot_along (a ∷ row) [] = refl
dot_along (a ∷ row) (x ∷ xs) = ap (λ z. a *ℚ x +ℚ z) (dot_along row xs)

pub form_along : (q : List (List ℚ)) (w xs : List ℚ) → form q w xs ≡ along (λ j. dot (row_at q j) w) xs
unfolding along
form_along [] w xs = sym (along_zero xs)
form_along (row ∷ q) w [] = refl
form_along (row ∷ q) w (x ∷ xs) = ap (λ z. dot row w *ℚ x +ℚ z) (form_along q w xs)

pub along_equal : (f g : ℕ → ℚ) (xs : List ℚ) → ((j : ℕ) → f j ≡ g j) → along f xs ≡ along g xs
unfolding along
along_equal f g [] h = refl
along_equal f g (x ∷ xs) h =
    ap (λ z. z *ℚ x +ℚ along (λ j. f (suc j)) xs) (h zero) ∙ ap (λ z. g zero *ℚ x +ℚ z) (along_equal (λ j. f (suc j)) (λ j. g (suc j)) xs (λ j. h (suc j)))

pub along_sum : (f g : ℕ → ℚ) (xs : List ℚ) → along (λ j. f j +ℚ g j) xs ≡ along f xs +ℚ along g xs
unfolding along
along_sum f g [] = sym (+ℚ_zero zero_ℚ)
along_sum f g (x ∷ xs) =
    let a = along (λ j. f (suc j)) xs in let b = along (λ j. g (suc j)) xs in
    ap (λ z. (f zero +ℚ g zero) *ℚ x +ℚ z) (along_sum (λ j. f (suc j)) (λ j. g (suc j)) xs)
    ∙ ring_by (f zero ∷ g zero ∷ x ∷ a ∷ b ∷ []) ((x0 ⊕ x1) ⊗ x2 ⊕ (x3 ⊕ x4)) ((x0 ⊗ x2 ⊕ x3) ⊕ (x1 ⊗ x2 ⊕ x4)) refl

pub along_scaled : (k : ℚ) (f : ℕ → ℚ) (xs : List ℚ) → along (λ j. k *ℚ f j) xs ≡ k *ℚ along f xs
unfolding along
along_scaled k f [] = sym (mul-zero k)
along_scaled k f (x ∷ xs) =
    let a = along (λ j. f (suc j)) xs in
    ap (λ z. (k *ℚ f zero) *ℚ x +ℚ z) (along_scaled k (λ j. f (suc j)) xs)
    ∙ ring_by (k ∷ f zero ∷ x ∷ a ∷ []) ((x0 ⊗ x1) ⊗ x2 ⊕ x0 ⊗ x3) (x0 ⊗ (x1 ⊗ x2 ⊕ x3)) refl

pub along_less : (f g : ℕ → ℚ) (xs : List ℚ) → along (λ j. f j -ℚ g j) xs ≡ along f xs -ℚ along g xs
unfolding along
along_less f g [] = ring_by [] (num (pos 0)) (num (pos 0) ⊝ num (pos 0)) refl
along_less f g (x ∷ xs) =
    let a = along (λ j. f (suc j)) xs in let b = along (λ j. g (suc j)) xs in
    ap (λ z. (f zero -ℚ g zero) *ℚ x +ℚ z) (along_less (λ j. f (suc j)) (λ j. g (suc j)) xs)
    ∙ ring_by (f zero ∷ g zero ∷ x ∷ a ∷ b ∷ []) ((x0 ⊝ x1) ⊗ x2 ⊕ (x3 ⊝ x4)) ((x0 ⊗ x2 ⊕ x3) ⊝ (x1 ⊗ x2 ⊕ x4)) refl

-- the sums exchanged: over the columns first, or over the rows first
pub exchange : (rows : List (List ℚ)) (ys xs : List ℚ) → along (λ j. dot (column j rows) ys) xs ≡ dot ys (rows_dot rows xs)
exchange [] [] xs = along_zero xs
exchange [] (y ∷ ys) xs = along_zero xs
exchange (row ∷ rows) [] xs = along_zero xs
exchange (row ∷ rows) (y ∷ ys) xs =
    along_sum (λ j. entry row j *ℚ y) (λ j. dot (column j rows) ys) xs
    ∙ ap (λ z. along (λ j. entry row j *ℚ y) xs +ℚ z) (exchange rows ys xs)
    ∙ ap (λ z. z +ℚ dot ys (rows_dot rows xs))
    (along_equal (λ j. entry row j *ℚ y) (λ j. y *ℚ entry row j) xs (λ j. *ℚ_comm (entry row j) y) ∙ along_scaled y (entry row) xs ∙ ap (λ z. y *ℚ z) (sym (dot_along row xs)))
