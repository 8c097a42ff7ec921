-- The entries of a symmetric matrix by its upper half.
use Rattle.std.specs.Prelude.{◌≡◌, ℕ, zero, suc, ◌+◌, List, [], ◌∷◌, drop, length, All}
use Rattle.std.proofs.Common.{refl, sym, ◌∙◌, ap, subst, arith}
use Rattle.std.proofs.lemmas.List.{length-drop}
use Rattle.std.proofs.lemmas.List.Elements.{All-head, All-tail}
use Rattle.rational.specs.Rational.{ℚ}
use Rattle.program_law.specs.Program.{Program, IsProgram}
use Rattle.rational.specs.Sums.{entry}
use Rattle.rational.specs.Vectors.{row_at}
use Rattle.symmetric_half.specs.Half.{upper_from, upper_half, IsHalf, half_at, IsSymmetric}

at-drop : (i : ℕ) (row : List ℚ) (k : ℕ) → entry (drop i row) k ≡ entry row (i + k)
at-drop zero row k = ap (λ (m : ℕ). entry row m) (omega arith)
at-drop (suc i) [] k = refl
at-drop (suc i) (x ∷ row) k = at-drop i row k ∙ ap (λ (m : ℕ). entry (x ∷ row) m) (let e : suc (i + k) ≡ suc i + k = omega arith in e)

upper_entry : (i : ℕ) (rows : List (List ℚ)) (j k : ℕ) → ((j k : ℕ) → entry (row_at rows j) (i + k) ≡ entry (row_at rows k) (i + j))
    → half_at (upper_from i rows) j k ≡ entry (row_at rows j) (i + k)
upper_entry i [] j k h = refl
upper_entry i (row ∷ rows) zero k h = at-drop i row k
upper_entry i (row ∷ rows) (suc j) zero h = at-drop i row (suc j) ∙ h zero (suc j)
upper_entry i (row ∷ rows) (suc j) (suc k) h =
    let e : (m : ℕ) → i + suc m ≡ suc i + m = λ m. omega arith in
    upper_entry (suc i) rows j k
    (λ j k. ap (λ (m : ℕ). entry (row_at rows j) m) (sym (e k)) ∙ h (suc j) (suc k) ∙ ap (λ (m : ℕ). entry (row_at rows k) m) (e j))
    ∙ ap (λ (m : ℕ). entry (row_at rows j) m) (sym (e k))

pub half-at : (q : List (List ℚ)) (j k : ℕ) → ((j k : ℕ) → entry (row_at q j) k ≡ entry (row_at q k) j) → half_at (upper_half q) j k ≡ entry (row_at q j) k
half-at q j k h =
    let e : (m : ℕ) → 0 + m ≡ m = λ m. omega arith in
    upper_entry 0 q j k (λ j k. ap (λ (m : ℕ). entry (row_at q j) m) (e k) ∙ h j k ∙ ap (λ (m : ℕ). entry (row_at q k) m) (sym (e j)))
    ∙ ap (λ (m : ℕ). entry (row_at q j) m) (e k)

upper_is_half : (i m : ℕ) (rows : List (List ℚ)) → length rows ≡ m → All (λ row. length row ≡ i + m) rows → IsHalf m (upper_from i rows)
upper_is_half i zero [] l h = tt
upper_is_half i zero (row ∷ rows) l h = absurd (omega arith)
upper_is_half i (suc m) [] l h = absurd (omega arith)
upper_is_half i (suc m) (row ∷ rows) l h =
    let w : length row ≡ i + suc m = All-head (λ row. length row ≡ i + suc m) row rows h in
    let e : i + suc m ≡ suc i + m = omega arith in (
      rw length-drop (omega arith),
      upper_is_half (suc i) m rows (omega arith) (subst (λ (k : ℕ). All (λ row. length row ≡ k) rows) e (All-tail (λ row. length row ≡ i + suc m) row rows h)),
    )

pub is_half : (q : List (List ℚ)) → IsSymmetric q → IsHalf (length q) (upper_half q)
is_half q s =
    let e : length q ≡ 0 + length q = omega arith in
    upper_is_half 0 (length q) q refl (subst (λ (k : ℕ). All (λ row. length row ≡ k) q) e s.square)

-- a program's form
pub program_symmetric : (p : Program) → IsProgram p → IsSymmetric p.pairs
program_symmetric p h =
    record {
      square = subst (λ (k : ℕ). All (λ row. length row ≡ k) p.pairs) (sym h.pairs_height) h.pairs_width;
      same = h.symmetric;
    }

-- the entries are those of a symmetric matrix
pub half_turned : (rows : List (List ℚ)) (j k : ℕ) → half_at rows j k ≡ half_at rows k j
half_turned [] j k = refl
half_turned (row ∷ rows) zero zero = refl
half_turned (row ∷ rows) zero (suc k) = refl
half_turned (row ∷ rows) (suc j) zero = refl
half_turned (row ∷ rows) (suc j) (suc k) = half_turned rows j k

pub half_diagonal : (rows : List (List ℚ)) (k : ℕ) → half_at rows k k ≡ entry (row_at rows k) 0
half_diagonal [] k = refl
half_diagonal (row ∷ rows) zero = refl
half_diagonal (row ∷ rows) (suc k) = half_diagonal rows k
