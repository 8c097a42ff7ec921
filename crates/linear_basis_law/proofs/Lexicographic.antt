-- The lexicographic order.
use Rattle.std.proofs.Common.{inl, inr, ⊎_elim, ◌≡◌, ◌≢◌, refl, sym, subst, ◌∙◌, ap, ℕ, zero, suc, ◌<◌, ◌⊎◌, List, [], ◌∷◌, length, arith}
use Rattle.algebra.proofs.Polynomial.{minus, ◌⊕◌, ◌⊗◌, ◌≐◌, ◌≺◌, lit}
use Rattle.algebra.proofs.Certificate.{prove, given, scaled, ◌⊞◌, ◌⊠◌, ◌⇐◌}
use Rattle.rational.specs.Rational.{ℚ, zero_ℚ, one_ℚ, ◌*ℚ◌, neg_ℚ}
use Rattle.rational.specs.Order.{◌≤ℚ◌, ◌<ℚ◌}
use Rattle.rational.specs.Vectors.{add_each, scale, zeros}
use Rattle.rational.proofs.Order.{ordered_rationals, lt_irrefl, le_or_lt, le_antisymm}
use Rattle.linear_basis_law.specs.Lexicographic.{IsLexPositive, IsLexBelow}
use Rattle.linear_basis_law.proofs.Places.{same_or_other}

pub lt_trans : {a b c : ℚ} → a <ℚ b → b <ℚ c → a <ℚ c
lt_trans {a} {b} {c} h k = prove ordered_rationals (a ∷ b ∷ c ∷ []) (λ a b c. a ≺ c ⇐ given (a ≺ b) ⊞ given (b ≺ c)) refl h k

-- ---- positive lists

pub positive-add : (u v : List ℚ) → length u ≡ length v → IsLexPositive u → IsLexPositive v → IsLexPositive (add_each u v)
positive-add [] v e h k = absurd h
positive-add (x ∷ u) [] e h k = absurd k
positive-add (x ∷ u) (y ∷ v) e (inl h) (inl k) =
    inl (prove ordered_rationals (x ∷ y ∷ []) (λ x y. lit 0 ≺ x ⊕ y ⇐ given (lit 0 ≺ x) ⊞ given (lit 0 ≺ y)) refl h k)
positive-add (x ∷ u) (y ∷ v) e (inl h) (inr k) =
    inl (prove ordered_rationals (x ∷ y ∷ []) (λ x y. lit 0 ≺ x ⊕ y ⇐ given (lit 0 ≺ x) ⊞ given (lit 0 ≐ y)) refl h (sym k.0))
positive-add (x ∷ u) (y ∷ v) e (inr h) (inl k) =
    inl (prove ordered_rationals (x ∷ y ∷ []) (λ x y. lit 0 ≺ x ⊕ y ⇐ given (lit 0 ≐ x) ⊞ given (lit 0 ≺ y)) refl (sym h.0) k)
positive-add (x ∷ u) (y ∷ v) e (inr h) (inr k) =
    inr (
      prove ordered_rationals (x ∷ y ∷ []) (λ x y. x ⊕ y ≐ lit 0 ⇐ given (x ≐ lit 0) ⊞ given (y ≐ lit 0)) refl h.0 k.0,
      positive-add u v (omega arith) h.1 k.1,
    )

pub positive-scale : (s : ℚ) (u : List ℚ) → zero_ℚ <ℚ s → IsLexPositive u → IsLexPositive (scale s u)
positive-scale s [] p h = absurd h
positive-scale s (x ∷ u) p (inl h) = inl (prove ordered_rationals (s ∷ x ∷ []) (λ s x. lit 0 ≺ s ⊗ x ⇐ given (lit 0 ≺ s) ⊠ given (lit 0 ≺ x)) refl p h)
positive-scale s (x ∷ u) p (inr h) = inr (prove ordered_rationals (s ∷ x ∷ []) (λ s x. s ⊗ x ≐ lit 0 ⇐ scaled s x (lit 0)) refl h.0, positive-scale s u p h.1)

-- exactly one: 0, positive, or its negation positive
pub positive-not_zeros : (u : List ℚ) (n : ℕ) → IsLexPositive u → ¬ (u ≡ zeros n)
positive-not_zeros u n h e = none n (subst IsLexPositive e h)
  where
    none : (n : ℕ) → IsLexPositive (zeros n) → ⊥
    none zero h = h
    none (suc n) (inl h) = lt_irrefl zero_ℚ h
    none (suc n) (inr h) = none n h.1

pub positive-not_negated : (u : List ℚ) → IsLexPositive u → ¬ (IsLexPositive (scale (neg_ℚ one_ℚ) u))
positive-not_negated [] h k = h
positive-not_negated (x ∷ u) (inl h) (inl k) =
    lt_irrefl zero_ℚ (prove ordered_rationals (x ∷ []) (λ x. lit 0 ≺ lit 0 ⇐ given (lit 0 ≺ x) ⊞ given (lit 0 ≺ minus (lit 1) ⊗ x)) refl h k)
positive-not_negated (x ∷ u) (inl h) (inr k) =
    lt_irrefl zero_ℚ (prove ordered_rationals (x ∷ []) (λ x. lit 0 ≺ lit 0 ⇐ given (lit 0 ≺ x) ⊞ given (lit 0 ≐ minus (lit 1) ⊗ x)) refl h (sym k.0))
positive-not_negated (x ∷ u) (inr h) (inl k) =
    lt_irrefl zero_ℚ (prove ordered_rationals (x ∷ []) (λ x. lit 0 ≺ lit 0 ⇐ given (lit 0 ≐ x) ⊞ given (lit 0 ≺ minus (lit 1) ⊗ x)) refl (sym h.0) k)
positive-not_negated (x ∷ u) (inr h) (inr k) = positive-not_negated u h.1 k.1

pub positive_or : (u : List ℚ) → IsLexPositive u ⊎ (u ≡ zeros (length u)) ⊎ IsLexPositive (scale (neg_ℚ one_ℚ) u)
positive_or [] = inr (inl refl)
positive_or (x ∷ u) = by (le_or_lt x zero_ℚ) (le_or_lt zero_ℚ x) (positive_or u)
  where
    by : (x ≤ℚ zero_ℚ) ⊎ (zero_ℚ <ℚ x) → (zero_ℚ ≤ℚ x) ⊎ (x <ℚ zero_ℚ) → IsLexPositive u ⊎ (u ≡ zeros (length u)) ⊎ IsLexPositive (scale (neg_ℚ one_ℚ) u)
        → IsLexPositive (x ∷ u) ⊎ (x ∷ u ≡ zeros (length (x ∷ u))) ⊎ IsLexPositive (scale (neg_ℚ one_ℚ) (x ∷ u))
    by (inr h) k r = inl (inl h)
    by (inl h) (inr k) r = inr (inr (inl (prove ordered_rationals (x ∷ []) (λ x. lit 0 ≺ minus (lit 1) ⊗ x ⇐ given (x ≺ lit 0)) refl k)))
    by (inl h) (inl k) (inl r) = inl (inr (le_antisymm x zero_ℚ h k, r))
    by (inl h) (inl k) (inr (inl r)) = inr (inl (ap (λ y. y ∷ u) (le_antisymm x zero_ℚ h k) ∙ ap (λ v. zero_ℚ ∷ v) r))
    by (inl h) (inl k) (inr (inr r)) =
        inr (inr (inr (prove ordered_rationals (x ∷ []) (λ x. minus (lit 1) ⊗ x ≐ lit 0 ⇐ scaled (minus (lit 1)) x (lit 0)) refl (le_antisymm x zero_ℚ h k), r)))

-- ---- the order

pub below_irrefl : (u : List ℚ) → ¬ (IsLexBelow u u)
below_irrefl [] h = h
below_irrefl (x ∷ u) (inl h) = lt_irrefl x h
below_irrefl (x ∷ u) (inr h) = below_irrefl u h.1

pub below_trans : (u v w : List ℚ) → IsLexBelow u v → IsLexBelow v w → IsLexBelow u w
below_trans [] v w h k = absurd h
below_trans (x ∷ u) [] w h k = absurd h
below_trans (x ∷ u) (y ∷ v) [] h k = absurd k
below_trans (x ∷ u) (y ∷ v) (z ∷ w) (inl h) (inl k) = inl (lt_trans h k)
below_trans (x ∷ u) (y ∷ v) (z ∷ w) (inl h) (inr k) = inl (subst (λ z. x <ℚ z) k.0 h)
below_trans (x ∷ u) (y ∷ v) (z ∷ w) (inr h) (inl k) = inl (subst (λ y. y <ℚ z) (sym h.0) k)
below_trans (x ∷ u) (y ∷ v) (z ∷ w) (inr h) (inr k) = inr (h.0 ∙ k.0, below_trans u v w h.1 k.1)

pub below_total : (u v : List ℚ) → length u ≡ length v → IsLexBelow u v ⊎ (u ≡ v) ⊎ IsLexBelow v u
below_total [] [] e = inr (inl refl)
below_total [] (y ∷ v) e = absurd (omega arith)
below_total (x ∷ u) [] e = absurd (omega arith)
below_total (x ∷ u) (y ∷ v) e = by (le_or_lt x y) (le_or_lt y x) (below_total u v (omega arith))
  where
    by : (x ≤ℚ y) ⊎ (y <ℚ x) → (y ≤ℚ x) ⊎ (x <ℚ y) → IsLexBelow u v ⊎ (u ≡ v) ⊎ IsLexBelow v u
        → IsLexBelow (x ∷ u) (y ∷ v) ⊎ (x ∷ u ≡ y ∷ v) ⊎ IsLexBelow (y ∷ v) (x ∷ u)
    by (inr h) k r = inr (inr (inl h))
    by (inl h) (inr k) r = inl (inl k)
    by (inl h) (inl k) (inl r) = inl (inr (le_antisymm x y h k, r))
    by (inl h) (inl k) (inr (inl r)) = inr (inl (ap (λ z. z ∷ u) (le_antisymm x y h k) ∙ ap (λ w. y ∷ w) r))
    by (inl h) (inl k) (inr (inr r)) = inr (inr (inr (le_antisymm y x k h, r)))

-- u is below v exactly where v less u is positive
pub below_difference : (u v : List ℚ) → length u ≡ length v → IsLexBelow u v → IsLexPositive (add_each v (scale (neg_ℚ one_ℚ) u))
below_difference [] v e h = absurd h
below_difference (x ∷ u) [] e h = absurd h
below_difference (x ∷ u) (y ∷ v) e (inl h) = inl (prove ordered_rationals (x ∷ y ∷ []) (λ x y. lit 0 ≺ y ⊕ minus (lit 1) ⊗ x ⇐ given (x ≺ y)) refl h)
below_difference (x ∷ u) (y ∷ v) e (inr h) =
    inr (prove ordered_rationals (x ∷ y ∷ []) (λ x y. y ⊕ minus (lit 1) ⊗ x ≐ lit 0 ⇐ scaled (minus (lit 1)) x y) refl h.0, below_difference u v (omega arith) h.1)

pub difference_below : (u v : List ℚ) → length u ≡ length v → IsLexPositive (add_each v (scale (neg_ℚ one_ℚ) u)) → IsLexBelow u v
difference_below [] [] e h = absurd h
difference_below [] (y ∷ v) e h = absurd (omega arith)
difference_below (x ∷ u) [] e h = absurd (omega arith)
difference_below (x ∷ u) (y ∷ v) e (inl h) = inl (prove ordered_rationals (x ∷ y ∷ []) (λ x y. x ≺ y ⇐ given (lit 0 ≺ y ⊕ minus (lit 1) ⊗ x)) refl h)
difference_below (x ∷ u) (y ∷ v) e (inr h) =
    inr (prove ordered_rationals (x ∷ y ∷ []) (λ x y. x ≐ y ⇐ scaled (minus (lit 1)) (y ⊕ minus (lit 1) ⊗ x) (lit 0)) refl h.0, difference_below u v (omega arith) h.1)

-- a list falls along a positive one
pub falls : (u v : List ℚ) (s : ℚ) → length u ≡ length v → s <ℚ zero_ℚ → IsLexPositive v → IsLexBelow (add_each u (scale s v)) u
falls [] [] s e n h = absurd h
falls [] (y ∷ v) s e n h = absurd (omega arith)
falls (x ∷ u) [] s e n h = absurd h
falls (x ∷ u) (y ∷ v) s e n (inl h) =
    inl (prove ordered_rationals (x ∷ y ∷ s ∷ []) (λ x y s. x ⊕ s ⊗ y ≺ x ⇐ given (s ≺ lit 0) ⊠ given (lit 0 ≺ y)) refl n h)
falls (x ∷ u) (y ∷ v) s e n (inr h) =
    inr (prove ordered_rationals (x ∷ y ∷ s ∷ []) (λ x y s. x ⊕ s ⊗ y ≐ x ⇐ scaled s y (lit 0)) refl h.0, falls u v s (omega arith) n h.1)

-- where u is below v / t, v less t times u is positive
pub less_multiple : (u v : List ℚ) (t i : ℚ) → length u ≡ length v → zero_ℚ <ℚ t → t *ℚ i ≡ one_ℚ → IsLexBelow u (scale i v) → IsLexPositive (add_each v (scale (neg_ℚ t) u))
less_multiple [] v t i e p f h = absurd h
less_multiple (x ∷ u) [] t i e p f h = absurd h
less_multiple (x ∷ u) (y ∷ v) t i e p f (inl h) =
    inl (prove ordered_rationals (x ∷ y ∷ t ∷ i ∷ []) (λ x y t i. lit 0 ≺ y ⊕ minus t ⊗ x ⇐ (given (lit 0 ≺ t) ⊠ given (x ≺ i ⊗ y)) ⊞ scaled y (t ⊗ i) (lit 1)) refl p h f)
less_multiple (x ∷ u) (y ∷ v) t i e p f (inr h) =
    inr (
      prove ordered_rationals (x ∷ y ∷ t ∷ i ∷ []) (λ x y t i. y ⊕ minus t ⊗ x ≐ lit 0 ⇐ scaled (minus t) x (i ⊗ y) ⊞ scaled (minus y) (t ⊗ i) (lit 1)) refl h.0 f,
      less_multiple u v t i (omega arith) p f h.1,
    )

-- a multiple that is not below 0
pub positive-add_multiple : (u v : List ℚ) (s : ℚ) → length u ≡ length v → zero_ℚ ≤ℚ s → IsLexPositive u → IsLexPositive v → IsLexPositive (add_each u (scale s v))
positive-add_multiple u v s e n h k = by (le_or_lt s zero_ℚ)
  where
    unchanged : (u v : List ℚ) → length u ≡ length v → add_each u (scale zero_ℚ v) ≡ u
    unchanged [] v e = refl
    unchanged (x ∷ u) [] e = absurd (omega arith)
    unchanged (x ∷ u) (y ∷ v) e =
        ap (λ z. z ∷ add_each u (scale zero_ℚ v)) (prove ordered_rationals (x ∷ y ∷ []) (λ x y. x ⊕ lit 0 ⊗ y ≐ x ⇐ scaled (lit 0) x x) refl refl)
        ∙ ap (λ w. x ∷ w) (unchanged u v (omega arith))

    by : (s ≤ℚ zero_ℚ) ⊎ (zero_ℚ <ℚ s) → IsLexPositive (add_each u (scale s v))
    by (inl l) = subst (λ s. IsLexPositive (add_each u (scale s v))) (le_antisymm zero_ℚ s n l) (subst IsLexPositive (sym (unchanged u v e)) h)
    by (inr l) = positive-add u (scale s v) (e ∙ sym (Rattle.rational.proofs.Vectors.length-scale s v)) h (positive-scale s v l k)

-- a least among the places below c at which P holds, where the values at two such places are never the same
module _ (P : ℕ → Type 0) (decide : (k : ℕ) → P k ⊎ ¬ (P k)) (q : ℕ → List ℚ)
    (differ : (k l : ℕ) → P k → P l → k ≢ l → IsLexBelow (q k) (q l) ⊎ IsLexBelow (q l) (q k)) where
  pub record IsLeastBelow (c l : ℕ) : Type 0 where
    pub place : l < c
    pub holds : P l
    pub least : (k : ℕ) → k < c → k ≢ l → P k → IsLexBelow (q l) (q k)

  abbrev pub HasLeast : ℕ → Type 0
  HasLeast c = ((k : ℕ) → k < c → ¬ (P k)) ⊎ ((l : ℕ) × IsLeastBelow c l)

  pub has_least : (c : ℕ) → HasLeast c
  has_least zero = inl (λ k h. absurd (omega arith))
  has_least (suc c) = by (has_least c) (decide c)
    where
      last : (k : ℕ) → k < suc c → (k < c) ⊎ (k ≡ c)
      last k h = grind arith

      by : HasLeast c → P c ⊎ ¬ (P c) → HasLeast (suc c)
      by (inl n) (inr m) = inl (λ k h. ⊎_elim (λ l. n k l) (λ e i. m (subst P e i)) (last k h))
      by (inl n) (inl h) = inr (
        c,
        record {
          place = omega arith;
          holds = h;
          least = λ k l o i. ⊎_elim (λ s. absurd (n k s i)) (λ e. absurd (o e)) (last k l);
        },
      )
      by (inr r) (inr m) = inr (
        r.0,
        record {
          place = let s = r.1.place in omega arith;
          holds = r.1.holds;
          least = λ k l o i. ⊎_elim (λ s. r.1.least k s o i) (λ e. absurd (m (subst P e i))) (last k l);
        },
      )
      by (inr r) (inl h) = compare (differ r.0 c r.1.holds h (λ e. let s = r.1.place in omega (arith, e)))
        where
          compare : IsLexBelow (q r.0) (q c) ⊎ IsLexBelow (q c) (q r.0) → HasLeast (suc c)
          compare (inl b) = inr (
            r.0,
            record {
              place = let s = r.1.place in omega arith;
              holds = r.1.holds;
              least = λ k l o i. ⊎_elim (λ s. r.1.least k s o i) (λ e. subst (λ k. IsLexBelow (q r.0) (q k)) (sym e) b) (last k l);
            },
          )
          compare (inr b) = inr (
            c,
            record {
              place = omega arith;
              holds = h;
              least = λ k l o i. ⊎_elim (λ s. before k s i (same_or_other k r.0)) (λ e. absurd (o e)) (last k l);
            },
          )
            where
              before : (k : ℕ) → k < c → P k → (k ≡ r.0) ⊎ (k ≢ r.0) → IsLexBelow (q c) (q k)
              before k s i (inl e) = subst (λ k. IsLexBelow (q c) (q k)) (sym e) b
              before k s i (inr n) = below_trans (q c) (q r.0) (q k) b (r.1.least k s n i)

abbrev Every : ℕ → Type 0
Every k = Unit {0}

-- among finitely many different lists one is least
pub some_least : (q : ℕ → List ℚ) (c w : ℕ) → 0 < c → ((k : ℕ) → length (q k) ≡ w) → ((k l : ℕ) → k ≢ l → ¬ (q k ≡ q l)) → (l : ℕ) × (l < c) × ((k : ℕ) → k < c → k ≢ l → IsLexBelow (q l) (q k))
some_least q c w some sizes differ = by (has_least Every (λ k. inl tt) q (λ k l i o n. apart k l n (below_total (q k) (q l) (sizes k ∙ sym (sizes l)))) c)
  where
    apart : (k l : ℕ) → k ≢ l → IsLexBelow (q k) (q l) ⊎ (q k ≡ q l) ⊎ IsLexBelow (q l) (q k) → IsLexBelow (q k) (q l) ⊎ IsLexBelow (q l) (q k)
    apart k l n (inl r) = inl r
    apart k l n (inr (inl e)) = absurd (differ k l n e)
    apart k l n (inr (inr r)) = inr r

    by : HasLeast Every (λ k. inl tt) q (λ k l i o n. apart k l n (below_total (q k) (q l) (sizes k ∙ sym (sizes l)))) c → (l : ℕ) × (l < c) × ((k : ℕ) → k < c → k ≢ l → IsLexBelow (q l) (q k))
    by (inl none) = absurd (none 0 some tt)
    by (inr r) = (r.0, r.1.place, λ k i n. r.1.least k i n tt)
