-- The lexicographic ratio rule, place after place.
use Rattle.std.specs.Prelude.{◌≡◌, ◌≢◌, ℕ, zero, suc, ◌+◌, ◌<◌, ◌↔◌, ◌⊎◌, List, [], ◌∷◌, length, slice_get, slice_index_or, Option, Some, None, Bool, true, false, ◌==◌, IsTrue}
use Rattle.std.specs.declared.cmp.Ordering.{Ordering}
use Rattle.std.specs.declared.cmp.Ordering.TheVariants.{Less, Equal, Greater}
use Rattle.std.specs.Ordering.{ordering_then, ordering_index}
use Rattle.std.proofs.Common.{inl, inr, ⊎_elim, arith, rules, sym, ap, ◌∙◌, subst, refl}
use Rattle.std.proofs.lemmas.Option.{get_or_from_slice_get, slice_get-get_or}
use Rattle.rational.specs.Rational.{ℚ, zero_ℚ, ◌*ℚ◌, ◌/ℚ◌, reciprocal}
use Rattle.rational.specs.Order.{◌<ℚ◌, rational_cmp, same_fields, same_fields_lem}
use Rattle.rational.specs.Sums.{entry}
use Rattle.rational.specs.Vectors.{scale, row_at}
use Rattle.rational.proofs.Field.{rationals}
use Rattle.algebra.proofs.Ring as laws
use Rattle.linear_basis_law.specs.Lexicographic.{IsLexBelow}
use Rattle.linear_basis_law.specs.Exchange.{quotient_row}
use Rattle.linear_basis_law.proofs.Lexicographic.{below_irrefl, below_trans}
use Rattle.elimination_law.specs.Answers.{right_beside}
use Rattle.exact_matrix.specs.Grid.{Grid, IsGrid}
use Rattle.ratio_test.specs.Ratio.{compare_quotients, IsLeast}
use Rattle.ratio_test.proofs.Numbers.{less_is, equal_is, same_is}

last : (i n : ℕ) → i < n + 1 → (i < n) ⊎ (i ≡ n)
last i n l = grind arith

-- what is said of the places below n and of n holds below n + 1
pub none_next : (P : ℕ → Type 0) (n : ℕ) → ((i : ℕ) → i < n → ¬ (P i)) → ¬ (P n) → (i : ℕ) → i < n + 1 → ¬ (P i)
none_next P n h k i l = ⊎_elim (λ m. h i m) (λ e q. k (subst P e q)) (last i n l)

-- ---- the order of divided rows

pub then_less : (o p : Ordering) → (ordering_then o p ≡ Less) ↔ ((o ≡ Less) ⊎ ((o ≡ Equal) × (p ≡ Less)))
then_less Less p = ((λ e. inl refl), (λ h. refl))
then_less Equal p = ((λ e. inr (refl, e)), (λ h. ⊎_elim (λ e. absurd cc) (λ e. e.1) h))
then_less Greater p = ((λ e. absurd cc), (λ h. ⊎_elim (λ e. absurd cc) (λ e. absurd (let f : Greater ≡ Equal = e.0 in cc)) h))

divided : (a t : ℚ) → a /ℚ t ≡ reciprocal t *ℚ a
divided a t = rationals.mul_comm a (reciprocal t)

below_next : (s t a b : ℚ) (u v : List ℚ) → (compare_quotients s t u v ≡ Less) ↔ IsLexBelow (scale (reciprocal s) u) (scale (reciprocal t) v) →
    (compare_quotients s t (a ∷ u) (b ∷ v) ≡ Less) ↔ IsLexBelow (scale (reciprocal s) (a ∷ u)) (scale (reciprocal t) (b ∷ v))
below_next s t a b u v rest = (to, from)
  where
    same : (a /ℚ s ≡ b /ℚ t) ↔ (reciprocal s *ℚ a ≡ reciprocal t *ℚ b)
    same = ((λ e. sym (divided a s) ∙ e ∙ divided b t), (λ e. divided a s ∙ e ∙ sym (divided b t)))

    less : ((a /ℚ s) <ℚ (b /ℚ t)) ↔ ((reciprocal s *ℚ a) <ℚ (reciprocal t *ℚ b))
    less = (
      (λ h. subst (λ x. x <ℚ (reciprocal t *ℚ b)) (divided a s) (subst (λ y. (a /ℚ s) <ℚ y) (divided b t) h)),
      (λ h. subst (λ x. x <ℚ (b /ℚ t)) (sym (divided a s)) (subst (λ y. (reciprocal s *ℚ a) <ℚ y) (sym (divided b t)) h)),
    )

    split : (compare_quotients s t (a ∷ u) (b ∷ v) ≡ Less) ↔ ((rational_cmp (a /ℚ s) (b /ℚ t) ≡ Less) ⊎ ((rational_cmp (a /ℚ s) (b /ℚ t) ≡ Equal) × (compare_quotients s t u v ≡ Less)))
    split = then_less (rational_cmp (a /ℚ s) (b /ℚ t)) (compare_quotients s t u v)

    to : compare_quotients s t (a ∷ u) (b ∷ v) ≡ Less → IsLexBelow (scale (reciprocal s) (a ∷ u)) (scale (reciprocal t) (b ∷ v))
    to e = ⊎_elim (λ h. inl (less.0 ((less_is (a /ℚ s) (b /ℚ t)).0 h)))
        (λ h. inr (same.0 (equal_is (a /ℚ s) (b /ℚ t) h.0), rest.0 h.1)) (split.0 e)

    from : IsLexBelow (scale (reciprocal s) (a ∷ u)) (scale (reciprocal t) (b ∷ v)) → compare_quotients s t (a ∷ u) (b ∷ v) ≡ Less
    from k = split.1 (⊎_elim (λ h. inl ((less_is (a /ℚ s) (b /ℚ t)).1 (less.1 h)))
        (λ h. inr (same_is (a /ℚ s) (b /ℚ t) (same.1 h.0), rest.1 h.1)) k)

-- the comparison says which of the two divided rows is below the other
pub below_is : (s t : ℚ) (u v : List ℚ) → length u ≡ length v → (compare_quotients s t u v ≡ Less) ↔ IsLexBelow (scale (reciprocal s) u) (scale (reciprocal t) v)
below_is s t [] v h = ((λ e. absurd cc), (λ k. absurd k))
below_is s t (a ∷ u) [] h = absurd (omega arith)
below_is s t (a ∷ u) (b ∷ v) h = below_next s t a b u v (below_is s t u v (omega arith))

-- ---- rows of places

pub place_row : (xs : List ℚ) (rows : List (List ℚ)) (k : ℕ) (x : ℚ) → length xs ≡ length rows → slice_get xs k ≡ Some x →
    row_at (right_beside xs rows) k ≡ x ∷ slice_index_or rows k []
place_row [] rows k x e h = absurd cc
place_row (y ∷ xs) [] k x e h = absurd (omega arith)
place_row (y ∷ xs) (row ∷ rows) zero x e h = let f : y ≡ x = cc in ap (λ z. z ∷ row) f
place_row (y ∷ xs) (row ∷ rows) (suc k) x e h = place_row xs rows k x (omega arith) h

pub entry_is : (xs : List ℚ) (k : ℕ) (x : ℚ) → slice_get xs k ≡ Some x → entry xs k ≡ x
entry_is xs k x h = get_or_from_slice_get xs k x zero_ℚ h

-- what a comparison of two rows says of the rows of two places
module _ (ts xs : List ℚ) (rows : List (List ℚ)) (k l : ℕ) (s t a b : ℚ) (row other : List ℚ)
    (coordinates : length ts ≡ length rows) (point : length xs ≡ length rows)
    (s_is : slice_get ts k ≡ Some s) (t_is : slice_get ts l ≡ Some t) (a_is : slice_get xs k ≡ Some a) (b_is : slice_get xs l ≡ Some b)
    (row_is : row ≡ slice_index_or rows k []) (other_is : other ≡ slice_index_or rows l []) where
  pub places_order : (o : Ordering) → o ≡ compare_quotients s t (a ∷ row) (b ∷ other) →
      o ≡ compare_quotients (entry ts k) (entry ts l) (row_at (right_beside xs rows) k) (row_at (right_beside xs rows) l)
  places_order o e =
      rw (entry_is ts k s s_is, entry_is ts l t t_is, place_row xs rows k a point a_is, place_row xs rows l b point b_is)
      (rw (sym row_is, sym other_is) e)

-- ---- the least place

module _ (ts : List ℚ) (rows : List (List ℚ)) (n : ℕ) where
  -- a place whose coordinate is not above 0 does not count
  pub least_same : (best : Option ℕ) → IsLeast ts rows n best → ¬ (zero_ℚ <ℚ entry ts n) → IsLeast ts rows (n + 1) best
  least_same None h k = none_next (λ i. zero_ℚ <ℚ entry ts i) n h k
  least_same (Some l) h k = (omega (arith, h.0), h.1, λ i o p. ⊎_elim (λ m. h.2 i m p) (λ e. absurd (k (subst (λ i. zero_ℚ <ℚ entry ts i) e p))) (last i n o))

  pub least_first : IsLeast ts rows n None → zero_ℚ <ℚ entry ts n → IsLeast ts rows (n + 1) (Some n)
  least_first h p =
      (omega arith, p, λ i o q. ⊎_elim (λ m. absurd (h i m q)) (λ e. subst (λ i. ¬ (IsLexBelow (quotient_row ts rows i) (quotient_row ts rows n))) (sym e) (below_irrefl (quotient_row ts rows n))) (last i n o))

  module _ (l : ℕ) (h : IsLeast ts rows n (Some l)) (p : zero_ℚ <ℚ entry ts n) (o : Ordering)
      (sizes : length (row_at rows n) ≡ length (row_at rows l)) (order : o ≡ compare_quotients (entry ts n) (entry ts l) (row_at rows n) (row_at rows l)) where
    below : (o ≡ Less) ↔ IsLexBelow (quotient_row ts rows n) (quotient_row ts rows l)
    below = let b = below_is (entry ts n) (entry ts l) (row_at rows n) (row_at rows l) sizes in ((λ e. b.0 (sym order ∙ e)), (λ k. order ∙ b.1 k))

    pub least_changes : o ≡ Less → IsLeast ts rows (n + 1) (Some n)
    least_changes e = (
      omega arith,
      p,
      λ i m q. ⊎_elim (λ m k. h.2 i m q (below_trans (quotient_row ts rows i) (quotient_row ts rows n) (quotient_row ts rows l) k (below.0 e)))
          (λ f. subst (λ i. ¬ (IsLexBelow (quotient_row ts rows i) (quotient_row ts rows n))) (sym f) (below_irrefl (quotient_row ts rows n))) (last i n m),
    )

    pub least_stays : o ≢ Less → IsLeast ts rows (n + 1) (Some l)
    least_stays e = (
      omega (arith, h.0),
      h.1,
      λ i m q. ⊎_elim (λ m. h.2 i m q)
          (λ f. subst (λ i. ¬ (IsLexBelow (quotient_row ts rows i) (quotient_row ts rows l))) (sym f) (λ k. e (below.1 k))) (last i n m),
    )

pub rows_width : (xs : List ℚ) (m : Grid ℚ) (k l : ℕ) → length xs ≡ length m.rows → IsGrid m → k < length m.rows → l < length m.rows →
    length (row_at (right_beside xs m.rows) k) ≡ length (row_at (right_beside xs m.rows) l)
rows_width xs m k l e g h i = width k h ∙ sym (width l i)
  where
    width : (k : ℕ) → k < length m.rows → length (row_at (right_beside xs m.rows) k) ≡ suc m.columns
    width k h = ap length (place_row xs m.rows k (entry xs k) e (slice_get-get_or xs k zero_ℚ (omega arith))) ∙ ap suc (g k [] h)

-- the best place was at l
module _ (ts xs : List ℚ) (m : Grid ℚ) (n l : ℕ) (best : Option ℕ) (h : IsLeast ts (right_beside xs m.rows) n best) (e : best ≡ Some l) where
  abbrev rows : List (List ℚ)
  rows = right_beside xs m.rows

  was : IsLeast ts rows n (Some l)
  was = subst (IsLeast ts rows n) e h

  module _ (coordinates : length ts ≡ length m.rows) (point : length xs ≡ length m.rows) (grid : IsGrid m) (within : n < length ts) (p : zero_ℚ <ℚ entry ts n)
      (o : Ordering) (order : o ≡ compare_quotients (entry ts n) (entry ts l) (row_at rows n) (row_at rows l)) where
    sizes : length (row_at rows n) ≡ length (row_at rows l)
    sizes = rows_width xs m n l point grid (omega (arith, within, coordinates)) (omega (arith, within, coordinates, was.0))

    pub best_changes : o ≡ Less → IsLeast ts rows (n + 1) (Some n)
    best_changes = least_changes ts rows n l was p o sizes order

    pub best_stays : o ≢ Less → IsLeast ts rows (n + 1) (Some l)
    best_stays = least_stays ts rows n l was p o sizes order

-- what the test for Less says
pub test_less : (o : Ordering) (b : Bool) → b ≡ (ordering_index o == 0) → b ≡ true → o ≡ Less
test_less Less b e f = refl
test_less Equal b e f = absurd (let bad : true ≡ false = sym f ∙ e in cc)
test_less Greater b e f = absurd (let bad : true ≡ false = sym f ∙ e in cc)

pub test_not_less : (o : Ordering) (b : Bool) → b ≡ (ordering_index o == 0) → b ≡ false → o ≢ Less
test_not_less o b e f h = absurd (let bad : true ≡ false = sym (ap (λ o. ordering_index o == 0) h) ∙ sym e ∙ f in cc)

pub positive_entry : (ts : List ℚ) (k : ℕ) (s : ℚ) (b : Bool) → slice_get ts k ≡ Some s → IsTrue b ↔ (zero_ℚ <ℚ s) → b ≡ true → zero_ℚ <ℚ entry ts k
positive_entry ts k s b e h f = subst (λ s. zero_ℚ <ℚ s) (sym (entry_is ts k s e)) (h.0 (search rules))

zero_over : (a t : ℚ) → a ≡ zero_ℚ → a /ℚ t ≡ zero_ℚ
zero_over a t e = ap (λ a. a /ℚ t) e ∙ laws.zero_mul rationals (reciprocal t)

-- two zeros need no division
pub zero_quotients : (a s b t : ℚ) → same_fields a zero_ℚ ≡ true → same_fields b zero_ℚ ≡ true → Equal ≡ rational_cmp (a /ℚ s) (b /ℚ t)
zero_quotients a s b t e f = sym (same_is (a /ℚ s) (b /ℚ t) (zero_over a s (same_fields_lem a zero_ℚ e) ∙ sym (zero_over b t (same_fields_lem b zero_ℚ f))))
