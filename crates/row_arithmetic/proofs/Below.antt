-- The order by cross products, place after place.
use Rattle.std.proofs.Common.{inl, inr, ⊎_elim, ◌≡◌, refl, sym, subst, ℕ, zero, suc, ◌+◌, ◌<◌, ◌≤◌, ℤ, pos, ◌*ℤ◌, List, [], ◌∷◌, length, drop, arith}
use Rattle.std.specs.Prelude.{◌<ℤ◌, ◌≤ℤ◌, ◌↔◌, ◌⊎◌, Some, None}
use Rattle.std.proofs.lemmas.Int.{ints}
use Rattle.algebra.proofs.Polynomial.{◌⊗◌, ◌≐◌, ◌≺◌, lit}
use Rattle.algebra.proofs.Certificate.{prove, given, scaled, ◌⊞◌, ◌⊠◌, ◌⇐◌}
use Rattle.algebra.proofs.IntegerOrder.{ordered_integers, lt_irrefl, le_refl, mul-le_cancel, mul-lt_cancel}
use Rattle.row_arithmetic.specs.Rows.{Row, number, row_in}
use Rattle.row_arithmetic.specs.Crosses.{IsCrossBelow, IsLeast}
use Rattle.row_arithmetic.proofs.Places.{last_or_before}

not_both : (a b : ℤ) → a <ℤ b → b <ℤ a → ⊥
not_both a b h k = absurd (omega (arith, ints))

not_same : (a b : ℤ) → a ≡ b → b <ℤ a → ⊥
not_same a b e k = lt_irrefl a (subst (λ x. x <ℤ a) (sym e) k)

pub cross_less : (s u : ℤ) (xs ys : List ℤ) (k : ℕ) → k < length xs → k < length ys → (number xs k *ℤ u) <ℤ (number ys k *ℤ s) → IsCrossBelow s (drop k xs) u (drop k ys)
cross_less s u [] ys k h i l = absurd (omega arith)
cross_less s u (x ∷ xs) [] k h i l = absurd (omega arith)
cross_less s u (x ∷ xs) (y ∷ ys) zero h i l = inl l
cross_less s u (x ∷ xs) (y ∷ ys) (suc k) h i l = cross_less s u xs ys k (omega arith) (omega arith) l

pub cross_greater : (s u : ℤ) (xs ys : List ℤ) (k : ℕ) → k < length xs → k < length ys → (number ys k *ℤ s) <ℤ (number xs k *ℤ u) → ¬ (IsCrossBelow s (drop k xs) u (drop k ys))
cross_greater s u [] ys k h i l = absurd (omega arith)
cross_greater s u (x ∷ xs) [] k h i l = absurd (omega arith)
cross_greater s u (x ∷ xs) (y ∷ ys) zero h i l = λ b. ⊎_elim (λ c. not_both (x *ℤ u) (y *ℤ s) c l) (λ c. not_same (x *ℤ u) (y *ℤ s) c.0 l) b
cross_greater s u (x ∷ xs) (y ∷ ys) (suc k) h i l = cross_greater s u xs ys k (omega arith) (omega arith) l

pub cross_equal : (s u : ℤ) (xs ys : List ℤ) (k : ℕ) → k < length xs → k < length ys → number xs k *ℤ u ≡ number ys k *ℤ s
    → IsCrossBelow s (drop (k + 1) xs) u (drop (k + 1) ys) ↔ IsCrossBelow s (drop k xs) u (drop k ys)
cross_equal s u [] ys k h i e = absurd (omega arith)
cross_equal s u (x ∷ xs) [] k h i e = absurd (omega arith)
cross_equal s u (x ∷ xs) (y ∷ ys) zero h i e = ((λ b. inr (e, b)), (λ b. ⊎_elim (λ c. absurd (lt_irrefl (y *ℤ s) (subst (λ a. a <ℤ (y *ℤ s)) e c))) (λ c. c.1) b))
cross_equal s u (x ∷ xs) (y ∷ ys) (suc k) h i e =
    let n : suc k + 1 ≡ suc (k + 1) = omega arith in
    rw n (cross_equal s u xs ys k (omega arith) (omega arith) e)

pub cross_end : (s u : ℤ) (xs ys : List ℤ) (k : ℕ) → length xs ≤ k → ¬ (IsCrossBelow s (drop k xs) u (drop k ys))
cross_end s u [] ys zero h = λ b. b
cross_end s u [] ys (suc k) h = λ b. b
cross_end s u (x ∷ xs) ys zero h = absurd (omega arith)
cross_end s u (x ∷ xs) [] (suc k) h = below_none s u (drop k xs)
  where
    below_none : (s u : ℤ) (xs : List ℤ) → ¬ (IsCrossBelow s xs u [])
    below_none s u [] b = b
    below_none s u (x ∷ xs) b = b
cross_end s u (x ∷ xs) (y ∷ ys) (suc k) h = cross_end s u xs ys k (omega arith)

-- ---- the least row

pub cross_irrefl : (s : ℤ) (xs : List ℤ) → ¬ (IsCrossBelow s xs s xs)
cross_irrefl s [] b = b
cross_irrefl s (x ∷ xs) b = ⊎_elim (λ c. lt_irrefl (x *ℤ s) c) (λ c. cross_irrefl s xs c.1) b

mul_cancel : (a b u : ℤ) → pos 0 <ℤ u → a *ℤ u ≡ b *ℤ u → a ≡ b
mul_cancel a b u p e =
    let f : a ≤ℤ b = mul-le_cancel a b u p (subst (λ x. (a *ℤ u) ≤ℤ x) e (le_refl (a *ℤ u))) in
    let g : b ≤ℤ a = mul-le_cancel b a u p (subst (λ x. (b *ℤ u) ≤ℤ x) (sym e) (le_refl (b *ℤ u))) in
    omega (arith, ints)

pub cross_trans : (s u v : ℤ) (xs ys zs : List ℤ) → pos 0 <ℤ s → pos 0 <ℤ u → pos 0 <ℤ v → IsCrossBelow s xs u ys → IsCrossBelow u ys v zs → IsCrossBelow s xs v zs
cross_trans s u v [] ys zs sp up vp b c = absurd b
cross_trans s u v (x ∷ xs) [] zs sp up vp b c = absurd b
cross_trans s u v (x ∷ xs) (y ∷ ys) [] sp up vp b c = absurd c
cross_trans s u v (x ∷ xs) (y ∷ ys) (z ∷ zs) sp up vp b c = by (cross_trans s u v xs ys zs sp up vp) b c
  where
    by : (IsCrossBelow s xs u ys → IsCrossBelow u ys v zs → IsCrossBelow s xs v zs)
        → ((x *ℤ u) <ℤ (y *ℤ s)) ⊎ ((x *ℤ u ≡ y *ℤ s) × IsCrossBelow s xs u ys) → ((y *ℤ v) <ℤ (z *ℤ u)) ⊎ ((y *ℤ v ≡ z *ℤ u) × IsCrossBelow u ys v zs)
        → ((x *ℤ v) <ℤ (z *ℤ s)) ⊎ ((x *ℤ v ≡ z *ℤ s) × IsCrossBelow s xs v zs)
    by f (inl h) (inl k) = inl (mul-lt_cancel (x *ℤ v) (z *ℤ s) u up (prove ordered_integers (s ∷ u ∷ v ∷ x ∷ y ∷ z ∷ []) (λ s u v x y z. x ⊗ v ⊗ u ≺ z ⊗ s ⊗ u
        ⇐ (given (lit 0 ≺ v) ⊠ given (x ⊗ u ≺ y ⊗ s)) ⊞ (given (lit 0 ≺ s) ⊠ given (y ⊗ v ≺ z ⊗ u))) refl vp h sp k))
    by f (inl h) (inr k) = inl (mul-lt_cancel (x *ℤ v) (z *ℤ s) u up (prove ordered_integers (s ∷ u ∷ v ∷ x ∷ y ∷ z ∷ []) (λ s u v x y z. x ⊗ v ⊗ u ≺ z ⊗ s ⊗ u
        ⇐ (given (lit 0 ≺ v) ⊠ given (x ⊗ u ≺ y ⊗ s)) ⊞ scaled s (y ⊗ v) (z ⊗ u)) refl vp h k.0))
    by f (inr h) (inl k) = inl (mul-lt_cancel (x *ℤ v) (z *ℤ s) u up (prove ordered_integers (s ∷ u ∷ v ∷ x ∷ y ∷ z ∷ []) (λ s u v x y z. x ⊗ v ⊗ u ≺ z ⊗ s ⊗ u
        ⇐ scaled v (x ⊗ u) (y ⊗ s) ⊞ (given (lit 0 ≺ s) ⊠ given (y ⊗ v ≺ z ⊗ u))) refl h.0 sp k))
    by f (inr h) (inr k) = inr (
      mul_cancel (x *ℤ v) (z *ℤ s) u up (prove ordered_integers (s ∷ u ∷ v ∷ x ∷ y ∷ z ∷ []) (λ s u v x y z. x ⊗ v ⊗ u ≐ z ⊗ s ⊗ u
          ⇐ scaled v (x ⊗ u) (y ⊗ s) ⊞ scaled s (y ⊗ v) (z ⊗ u)) refl h.0 k.0),
      f h.1 k.1,
    )

module _ (t : List ℤ) (rows : List Row) (k : ℕ) (positive : pos 0 <ℤ number t k) where
  -- the row at i, each over its number, is below that at j
  abbrev below : ℕ → ℕ → Type 0
  below i j = IsCrossBelow (number t i) (row_in rows i).numbers (number t j) (row_in rows j).numbers

  not_self : (i : ℕ) → i ≡ k → ¬ (below i k)
  not_self i e b = cross_irrefl (number t k) (row_in rows k).numbers (subst (λ i. below i k) e b)

  pub least_first : IsLeast t rows k None → IsLeast t rows (k + 1) (Some k)
  least_first none = (omega arith, positive, λ i l p. ⊎_elim (λ u. absurd (none i u p)) (λ e. not_self i e) (last_or_before i k l))

  pub least_below : (l : ℕ) → IsLeast t rows k (Some l) → below k l → IsLeast t rows (k + 1) (Some k)
  least_below l h b = (
    omega arith,
    positive,
    λ i u p. ⊎_elim
        (λ v c. h.2 i v p (cross_trans (number t i) (number t k) (number t l) (row_in rows i).numbers (row_in rows k).numbers (row_in rows l).numbers p positive h.1 c b))
        (λ e. not_self i e) (last_or_before i k u),
  )
