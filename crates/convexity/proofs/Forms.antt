-- The form of a matrix by its upper half.
use Rattle.std.specs.Prelude.{◌≡◌, ℕ, zero, suc, ◌<◌, List, [], ◌∷◌, length, slice_set}
use Rattle.std.proofs.Common.{refl, sym, ◌∙◌, ap, arith}
use Rattle.algebra.proofs.Polynomial.{◌⊕◌, ◌⊝◌, ◌⊗◌, ◌≐◌, lit}
use Rattle.algebra.proofs.Solver.{ring}
use Rattle.rational.specs.Rational.{ℚ, zero_ℚ, ◌+ℚ◌, ◌-ℚ◌, ◌*ℚ◌}
use Rattle.rational.specs.Vectors.{zeros, row_at, dot, form}
use Rattle.rational.proofs.Field.{rationals, *ℚ_comm}
use Rattle.rational.specs.Sums.{entry}
use Rattle.program_law.proofs.Sums.{along, dot_along, form_along, along_equal, along_sum, along_scaled, along_less}
use Rattle.symmetric_half.specs.Half.{upper_half, IsHalf, half_at}
use Rattle.convexity.specs.Reduction.{less_products}
use Rattle.symmetric_half.proofs.Halves.{half-at, half_diagonal}
use Rattle.convexity.proofs.Entries.{less_at}

-- the form of the matrix with this upper half at a vector
unfoldable pub half_form : List (List ℚ) → List ℚ → ℚ
half_form rows z = along (λ j. along (half_at rows j) z) z

pub form_is_half : (q : List (List ℚ)) (z : List ℚ) → ((j k : ℕ) → entry (row_at q j) k ≡ entry (row_at q k) j) → form q z z ≡ half_form (upper_half q) z
unfolding half_form
form_is_half q z h =
    form_along q z z
    ∙ along_equal (λ j. dot (row_at q j) z) (λ j. along (half_at (upper_half q) j) z) z
    (λ j. dot_along (row_at q j) z ∙ along_equal (entry (row_at q j)) (half_at (upper_half q) j) z (λ k. sym (half-at q j k h)))

-- the form of a matrix with one place more before it
pub bordered : (d : ℚ) (r : List ℚ) (rows : List (List ℚ)) (x : ℚ) (z : List ℚ)
    → half_form ((d ∷ r) ∷ rows) (x ∷ z) ≡ (d *ℚ x +ℚ dot r z) *ℚ x +ℚ (x *ℚ dot r z +ℚ half_form rows z)
unfolding half_form along
bordered d r rows x z =
    let beside : along (λ j. entry r j *ℚ x +ℚ along (half_at rows j) z) z ≡ x *ℚ dot r z +ℚ along (λ j. along (half_at rows j) z) z =
    along_sum (λ j. entry r j *ℚ x) (λ j. along (half_at rows j) z) z
    ∙ ap (λ (t : ℚ). t +ℚ along (λ j. along (half_at rows j) z) z)
    (along_equal (λ j. entry r j *ℚ x) (λ j. x *ℚ entry r j) z (λ j. *ℚ_comm (entry r j) x) ∙ along_scaled x (entry r) z ∙ ap (λ (t : ℚ). x *ℚ t) (sym (dot_along r z))) in
    ap (λ (t : ℚ). (d *ℚ x +ℚ t) *ℚ x +ℚ along (λ j. entry r j *ℚ x +ℚ along (half_at rows j) z) z) (sym (dot_along r z))
    ∙ ap (λ (t : ℚ). (d *ℚ x +ℚ dot r z) *ℚ x +ℚ t) beside

-- ---- at zeros, and at a vector with one entry

along_zeros : (f : ℕ → ℚ) (n : ℕ) → along f (zeros n) ≡ zero_ℚ
unfolding along
along_zeros f zero = refl
along_zeros f (suc n) =
    ap (λ (t : ℚ). f zero *ℚ zero_ℚ +ℚ t) (along_zeros (λ j. f (suc j)) n) ∙ ring rationals (f zero ∷ []) (λ a. a ⊗ lit 0 ⊕ lit 0 ≐ lit 0) refl

pub half_form_zeros : (rows : List (List ℚ)) (n : ℕ) → half_form rows (zeros n) ≡ zero_ℚ
unfolding half_form
half_form_zeros rows n = along_zeros (λ j. along (half_at rows j) (zeros n)) n

along_one : (f : ℕ → ℚ) (n k : ℕ) (t : ℚ) → k < n → along f (slice_set (zeros n) k t) ≡ f k *ℚ t
unfolding along
along_one f zero k t h = absurd (omega arith)
along_one f (suc n) zero t h =
    ap (λ (s : ℚ). f zero *ℚ t +ℚ s) (along_zeros (λ j. f (suc j)) n) ∙ ring rationals (f zero ∷ t ∷ []) (λ a t. a ⊗ t ⊕ lit 0 ≐ a ⊗ t) refl
along_one f (suc n) (suc k) t h =
    ap (λ (s : ℚ). f zero *ℚ zero_ℚ +ℚ s) (along_one (λ j. f (suc j)) n k t (omega arith))
    ∙ ring rationals (f zero ∷ f (suc k) ∷ t ∷ []) (λ a b t. a ⊗ lit 0 ⊕ b ⊗ t ≐ b ⊗ t) refl

pub dot_one : (r : List ℚ) (n k : ℕ) (t : ℚ) → k < n → dot r (slice_set (zeros n) k t) ≡ entry r k *ℚ t
dot_one r n k t h = dot_along r (slice_set (zeros n) k t) ∙ along_one (entry r) n k t h

pub half_form_one : (rows : List (List ℚ)) (n k : ℕ) (t : ℚ) → k < n → half_form rows (slice_set (zeros n) k t) ≡ (entry (row_at rows k) 0 *ℚ t) *ℚ t
unfolding half_form
half_form_one rows n k t h =
    let u = slice_set (zeros n) k t in
    along_one (λ j. along (half_at rows j) u) n k t h
    ∙ ap (λ (s : ℚ). s *ℚ t) (along_one (half_at rows k) n k t h ∙ ap (λ (s : ℚ). s *ℚ t) (half_diagonal rows k))

-- ---- where r is d times v

pub dot_times : (d : ℚ) (r v z : List ℚ) → ((k : ℕ) → entry r k ≡ d *ℚ entry v k) → dot r z ≡ d *ℚ dot v z
dot_times d r v z e =
    dot_along r z ∙ along_equal (entry r) (λ k. d *ℚ entry v k) z e ∙ along_scaled d (entry v) z ∙ ap (λ (t : ℚ). d *ℚ t) (sym (dot_along v z))

-- the rows less a product lose the square of v
pub half_form_less : (n : ℕ) (d : ℚ) (r v : List ℚ) (rows : List (List ℚ)) (z : List ℚ) → length r ≡ n → length v ≡ n → IsHalf n rows
    → ((k : ℕ) → entry r k ≡ d *ℚ entry v k) → half_form (less_products r v rows) z ≡ half_form rows z -ℚ (d *ℚ dot v z) *ℚ dot v z
unfolding half_form
half_form_less n d r v rows z h l s e =
    let b = dot v z in
    let inner : (j : ℕ) → along (half_at (less_products r v rows) j) z ≡ along (half_at rows j) z -ℚ (d *ℚ b) *ℚ entry v j = λ j.
    along_equal (half_at (less_products r v rows) j) (λ k. half_at rows j k -ℚ (d *ℚ entry v j) *ℚ entry v k) z (λ k. less_at n d r v rows j k h l s e)
    ∙ along_less (half_at rows j) (λ k. (d *ℚ entry v j) *ℚ entry v k) z
    ∙ ap (λ (t : ℚ). along (half_at rows j) z -ℚ t) (along_scaled (d *ℚ entry v j) (entry v) z ∙ ap (λ (t : ℚ). (d *ℚ entry v j) *ℚ t) (sym (dot_along v z)))
    ∙ ring rationals (along (half_at rows j) z ∷ d ∷ entry v j ∷ b ∷ []) (λ a d y b. a ⊝ (d ⊗ y) ⊗ b ≐ a ⊝ (d ⊗ b) ⊗ y) refl in
    along_equal (λ j. along (half_at (less_products r v rows) j) z) (λ j. along (half_at rows j) z -ℚ (d *ℚ b) *ℚ entry v j) z inner
    ∙ along_less (λ j. along (half_at rows j) z) (λ j. (d *ℚ b) *ℚ entry v j) z
    ∙ ap (λ (t : ℚ). along (λ j. along (half_at rows j) z) z -ℚ t) (along_scaled (d *ℚ b) (entry v) z ∙ ap (λ (t : ℚ). (d *ℚ b) *ℚ t) (sym (dot_along v z)))
