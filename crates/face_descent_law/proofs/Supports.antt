-- The places of a support, and what is picked at them.
use Rattle.std.proofs.Common.{◌≡◌, ◌≢◌, refl, sym, ◌∙◌, ap, subst, ℕ, zero, suc, ◌+◌, ◌-◌, ◌<◌, ◌≤◌, List, [], ◌∷◌, length, arith, ⊎_elim, Bool, true, false, if◌then◌else◌}
use Rattle.std.specs.List.{All}
use Rattle.std.proofs.lemmas.List.Elements.{All-head, All-tail, All-cons, All-nil, All-weaker}
use Rattle.std.proofs.lemmas.Bool.{cases_eq}
use Rattle.rational.specs.Rational.{ℚ, zero_ℚ}
use Rattle.rational.specs.Order.{same_fields, same_fields_lem, differ_of_same_fields}
use Rattle.rational.specs.Sums.{entry}
use Rattle.rational.specs.Vectors.{zeros, pick, put_at}
use Rattle.rational.proofs.Vectors.{entry-zeros, length-zeros, same_by_dot, dot-zeros_right}
use Rattle.rational.proofs.Supports.{dot-pick, length-put_at}
use Rattle.face_descent_law.specs.Small.{support_from, support}

-- what holds at each place of a list holds at j, if not all of them differ from j
pub at_place : (P : ℕ → Type 0) (s : List ℕ) (j : ℕ) → All P s → ¬ (All (λ k. k ≢ j) s) → P j
at_place P [] j h some = absurd (some (All-nil (λ k. k ≢ j)))
at_place P (k ∷ s) j h some =
    ⊎_elim (λ e. subst P e (All-head P k s h))
    (λ d. at_place P s j (All-tail P k s h) (λ off. some (All-cons (λ k. k ≢ j) k s d off))) (cases_eq k j)

-- picked alike where each entry is
pub same_picked : (s : List ℕ) (u v : List ℚ) → All (λ k. entry u k ≡ entry v k) s → pick s u ≡ pick s v
same_picked [] u v h = refl
same_picked (k ∷ s) u v h =
    let a = All-head (λ k. entry u k ≡ entry v k) k s h in
    let b = same_picked s u v (All-tail (λ k. entry u k ≡ entry v k) k s h) in
    ap (λ x. x ∷ pick s u) a ∙ ap (λ t. entry v k ∷ t) b

first_of_same : {x y : ℚ} {s t : List ℚ} → x ∷ s ≡ y ∷ t → x ≡ y
first_of_same e = cc

rest_of_same : {x y : ℚ} {s t : List ℚ} → x ∷ s ≡ y ∷ t → s ≡ t
rest_of_same e = cc

pub same_of_picked : (s : List ℕ) (u v : List ℚ) → pick s u ≡ pick s v → All (λ k. entry u k ≡ entry v k) s
same_of_picked [] u v h = All-nil (λ k. entry u k ≡ entry v k)
same_of_picked (k ∷ s) u v h = All-cons (λ k. entry u k ≡ entry v k) k s (first_of_same h) (same_of_picked s u v (rest_of_same h))

pub pick-zeros : (s : List ℕ) (n : ℕ) → pick s (zeros n) ≡ zeros (length s)
pick-zeros [] n = refl
pick-zeros (k ∷ s) n = ap (λ x. x ∷ pick s (zeros n)) (entry-zeros n k) ∙ ap (λ t. zero_ℚ ∷ t) (pick-zeros s n)

pub put_at-zeros : (n : ℕ) (s : List ℕ) (k : ℕ) → put_at n s (zeros k) ≡ zeros n
put_at-zeros n s k =
    let a = length-put_at n s (zeros k) in
    same_by_dot _ _ (a ∙ sym (length-zeros n)) (λ w l. sym (dot-pick n s w (zeros k) (l ∙ a)) ∙ dot-zeros_right (pick s w) k ∙ sym (dot-zeros_right w n))

-- k is a place of an entry of z that is not 0, where the first stands at place j
pub record IsPlace (j : ℕ) (z : List ℚ) (k : ℕ) : Type 0 where
  pub from : j ≤ k
  pub below : k < j + length z
  pub nonzero : entry z (k - j) ≢ zero_ℚ

later_place : (j : ℕ) (x : ℚ) (z : List ℚ) (k : ℕ) → IsPlace (suc j) z k → IsPlace j (x ∷ z) k
later_place j x z k h =
    let a = h.from in
    let b = h.below in
    let c : suc (k - suc j) ≡ k - j = omega arith in
    record { from = omega arith; below = omega arith; nonzero = subst (λ (i : ℕ). entry (x ∷ z) i ≢ zero_ℚ) c h.nonzero }

first_place : (j : ℕ) (x : ℚ) (z : List ℚ) → x ≢ zero_ℚ → IsPlace j (x ∷ z) j
first_place j x z h =
    let c : 0 ≡ j - j = omega arith in
    record { from = omega arith; below = omega arith; nonzero = subst (λ (i : ℕ). entry (x ∷ z) i ≢ zero_ℚ) c h }

pub places_from : (j : ℕ) (z : List ℚ) → All (IsPlace j z) (support_from j z)
places_from j [] = All-nil (IsPlace j [])
places_from j (x ∷ z) =
    by (All-weaker (IsPlace (suc j) z) (IsPlace j (x ∷ z)) (later_place j x z) (support_from (suc j) z) (places_from (suc j) z)) (same_fields x zero_ℚ) refl
  where
    by : All (IsPlace j (x ∷ z)) (support_from (suc j) z) → (b : Bool) → same_fields x zero_ℚ ≡ b → All (IsPlace j (x ∷ z)) (if b then support_from (suc j) z else j ∷ support_from (suc j) z)
    by more true e = more
    by more false e = All-cons (IsPlace j (x ∷ z)) j (support_from (suc j) z) (first_place j x z (differ_of_same_fields x zero_ℚ e)) more

pub support_below : (n : ℕ) (z : List ℚ) → length z ≡ n → All (λ k. k < n) (support z)
support_below n z e = All-weaker (IsPlace 0 z) (λ k. k < n) (λ k h. let b = h.below in omega arith) (support z) (places_from 0 z)

pub support_nonzero : (z : List ℚ) → All (λ k. entry z k ≢ zero_ℚ) (support z)
support_nonzero z = All-weaker (IsPlace 0 z) (λ k. entry z k ≢ zero_ℚ) (λ k h. let c : k - 0 ≡ k = omega arith in subst (λ (i : ℕ). entry z i ≢ zero_ℚ) c h.nonzero) (support z) (places_from 0 z)

off_from : (j : ℕ) (z : List ℚ) (i : ℕ) → All (λ k. k ≢ j + i) (support_from j z) → entry z i ≡ zero_ℚ
off_from j [] i h = refl
off_from j (x ∷ z) zero h = by (same_fields x zero_ℚ) refl h
  where
    by : (b : Bool) → same_fields x zero_ℚ ≡ b → All (λ k. k ≢ j + 0) (if b then support_from (suc j) z else j ∷ support_from (suc j) z) → x ≡ zero_ℚ
    by true e k = same_fields_lem x zero_ℚ e
    by false e k = absurd (All-head (λ k. k ≢ j + 0) j (support_from (suc j) z) k (omega arith))
off_from j (x ∷ z) (suc i) h = off_from (suc j) z i (All-weaker (λ k. k ≢ j + suc i) (λ k. k ≢ suc j + i) (λ k d e. d (omega arith)) (support_from (suc j) z) (by (same_fields x zero_ℚ) h))
  where
    by : (b : Bool) → All (λ k. k ≢ j + suc i) (if b then support_from (suc j) z else j ∷ support_from (suc j) z) → All (λ k. k ≢ j + suc i) (support_from (suc j) z)
    by true k = k
    by false k = All-tail (λ k. k ≢ j + suc i) j (support_from (suc j) z) k

-- z is 0 off its support
pub off_support : (z : List ℚ) (j : ℕ) → All (λ k. k ≢ j) (support z) → entry z j ≡ zero_ℚ
off_support z j h = off_from 0 z j (All-weaker (λ k. k ≢ j) (λ k. k ≢ 0 + j) (λ k d e. d (omega arith)) (support z) h)
