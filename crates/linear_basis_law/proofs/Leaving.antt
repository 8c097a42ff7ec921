-- The lexicographic ratio rule: there is one place that leaves, and only one; and the exchange there keeps the basis standing.
use Rattle.std.proofs.Common.{inl, inr, ⊎_elim, ◌≡◌, ◌≢◌, refl, sym, subst, ◌∙◌, ap, ℕ, zero, suc, ◌<◌, ◌⊎◌, List, [], ◌∷◌, length, arith}
use Rattle.std.specs.Prelude.{All, slice_index_or, nat_lt, drop, Bool, true, false}
use Rattle.std.proofs.lemmas.Bool.Decides.{nat_tests}
use Rattle.algebra.proofs.Polynomial.{minus, ◌⊕◌, ◌⊗◌, ◌⊝◌, ◌≐◌, ◌≼◌, ◌≺◌, lit}
use Rattle.algebra.proofs.Certificate.{prove, given, scaled, ◌⊞◌, ◌⊠◌, ◌⇐◌}
use Rattle.rational.specs.Rational.{ℚ, zero_ℚ, one_ℚ, ◌*ℚ◌, neg_ℚ, reciprocal}
use Rattle.rational.specs.Order.{◌≤ℚ◌, ◌<ℚ◌}
use Rattle.rational.specs.Sums.{entry}
use Rattle.rational.specs.Vectors.{dot, add_each, scale, unit_vector, row_at}
use Rattle.rational.proofs.Field.{mul-reciprocal}
use Rattle.rational.proofs.Order.{ordered_rationals, lt_irrefl, le_or_lt, le_refl}
use Rattle.rational.proofs.OrderLaws.{ne_of_lt, reciprocal_positive, not-le_of_lt}
use Rattle.rational.proofs.Vectors.{length-rows_dot, length-row_at, length-scale, dot-scale_left, entry-rows_dot, entry-unit_vector_same, entry-unit_vector_other}
use Rattle.elimination_law.proofs.Vectors.{length-right_beside}
use Rattle.linear_basis_law.specs.Problem.{Problem, IsProblem, height, width, column_of, cost_of}
use Rattle.linear_basis_law.specs.Lexicographic.{IsLexPositive, IsLexBelow}
use Rattle.linear_basis_law.specs.Basis.{Tableau, IsBasis, IsStanding, basic_columns, basic_costs, point, multipliers, price, level, tableau_rows}
use Rattle.linear_basis_law.specs.Exchange.{coordinates, quotient_row, shift, exchanged, IsLeaving}
use Rattle.linear_basis_law.proofs.Places.{same_or_other, row_at-add_multiples, length-add_multiples, row_at-beside}
use Rattle.linear_basis_law.proofs.Inverses.{dot-multipliers}
use Rattle.linear_basis_law.proofs.Bases.{size, costs_size, multipliers_size, cost_of-given, entry-map, length-column_of}
use Rattle.linear_basis_law.proofs.Changes.{rows_are, level_moves, factor_place, factor_other, divided_place}
use Rattle.linear_basis_law.proofs.Lexicographic.{positive-scale, positive-add_multiple, less_multiple, below_total, below_trans, below_irrefl, falls, IsLeastBelow, has_least}

-- ---- rows by place

pub row_at-is : (M : List (List ℚ)) (k : ℕ) (d : List ℚ) → k < length M → row_at M k ≡ slice_index_or M k d
row_at-is [] k d h = absurd (omega arith)
row_at-is (r ∷ M) zero d h = refl
row_at-is (r ∷ M) (suc k) d h = row_at-is M k d (omega arith)

pub All-row_at : (P : List ℚ → Type 0) (M : List (List ℚ)) (k : ℕ) → k < length M → All P M → P (row_at M k)
All-row_at P M k l h = subst P (sym (row_at-is M k [] l)) (h k [] l)

pub All-by_row_at : (P : List ℚ → Type 0) (M : List (List ℚ)) → ((k : ℕ) → k < length M → P (row_at M k)) → All P M
All-by_row_at P M h = λ k d l. subst P (row_at-is M k d l) (h k l)

-- ---- a product of numbers that are not below 0 with ones that are not above 0

pub dot-nonpos : (c t : List ℚ) → ((k : ℕ) → k < length c → zero_ℚ ≤ℚ entry c k) → ((k : ℕ) → k < length c → entry t k ≤ℚ zero_ℚ) → dot c t ≤ℚ zero_ℚ
dot-nonpos [] t h k = le_refl zero_ℚ
dot-nonpos (x ∷ c) [] h k = le_refl zero_ℚ
dot-nonpos (x ∷ c) (y ∷ t) h k =
    prove ordered_rationals (x ∷ y ∷ dot c t ∷ []) (λ x y s. x ⊗ y ⊕ s ≼ lit 0 ⇐ (given (lit 0 ≼ x) ⊠ given (y ≼ lit 0)) ⊞ given (s ≼ lit 0)) refl
    (h 0 (omega arith)) (k 0 (omega arith)) (dot-nonpos c t (λ i l. h (suc i) (omega arith)) (λ i l. k (suc i) (omega arith)))

pub cost_nonneg : (p : Problem) (j : ℕ) → zero_ℚ ≤ℚ cost_of p j
cost_nonneg p j = by (nat_lt j p.given) refl
  where
    by : (b : Bool) → nat_lt j p.given ≡ b → zero_ℚ ≤ℚ cost_of p j
    by true e = rw e (le_refl zero_ℚ)
    by false e = rw e (prove ordered_rationals (zero_ℚ ∷ []) (λ z. lit 0 ≼ lit 1 ⇐ Rattle.algebra.proofs.Certificate.weight 1) refl)

module _ (p : Problem) (b : Tableau) (h : IsBasis p b) where
  pub basic_costs_nonneg : (k : ℕ) → k < height p → zero_ℚ ≤ℚ entry (basic_costs p b) k
  basic_costs_nonneg k l =
      let e : entry (basic_costs p b) k ≡ cost_of p (slice_index_or b.columns k 0) = entry-map (cost_of p) b.columns k 0 (omega (arith, l, size p b h)) in
      subst (λ x. zero_ℚ ≤ℚ x) (sym e) (cost_nonneg p (slice_index_or b.columns k 0))

  rows_size : length (tableau_rows p b) ≡ height p
  rows_size = length-right_beside (point p b) b.inverse (length-rows_dot b.inverse p.right) ∙ h.inverse.rows

  row_is : (k : ℕ) → k < height p → row_at (tableau_rows p b) k ≡ dot (row_at b.inverse k) p.right ∷ row_at b.inverse k
  row_is k l = row_at-beside b.inverse p.right k (omega (arith, l, h.inverse.rows))

  pub row_size : (k : ℕ) → k < height p → length (row_at (tableau_rows p b) k) ≡ suc (height p)
  row_size k l = ap length (row_is k l) ∙ ap suc (length-row_at (height p) b.inverse k h.inverse.widths (omega (arith, l, h.inverse.rows)))

  module _ (j : ℕ) where
    abbrev t : List ℚ
    t = coordinates p b j

    abbrev quotient : ℕ → List ℚ
    quotient k = quotient_row t (tableau_rows p b) k

    -- a column of M with a price below 0 has a coordinate above 0
    pub some_coordinate : j < p.given → price p b j <ℚ zero_ℚ → ¬ ((k : ℕ) → k < height p → ¬ (zero_ℚ <ℚ entry t k))
    some_coordinate within falling none =
        let s = dot (multipliers p b) (column_of p j) in
        let e : s ≡ dot (basic_costs p b) t = dot-multipliers (height p) (basic_columns p b) b.inverse h.inverse (basic_costs p b) (column_of p j) in
        let at : (k : ℕ) → k < length (basic_costs p b) → k < height p = λ k l. omega (arith, l, costs_size p b h) in
        let not_above : dot (basic_costs p b) t ≤ℚ zero_ℚ = dot-nonpos (basic_costs p b) t (λ k l. basic_costs_nonneg k (at k l))
        (λ k l. ⊎_elim (λ u. u) (λ u. absurd (none k (at k l) u)) (le_or_lt (entry t k) zero_ℚ)) in
        lt_irrefl zero_ℚ (prove ordered_rationals (cost_of p j ∷ s ∷ dot (basic_costs p b) t ∷ [])
        (λ c s d. lit 0 ≺ lit 0 ⇐ given (c ⊝ s ≺ lit 0) ⊞ given (lit 0 ≐ c) ⊞ given (s ≐ d) ⊞ given (d ≼ lit 0)) refl
        falling (sym (cost_of-given p j within)) e not_above)

    -- no two places tie
    pub no_tie : (k l : ℕ) → k < height p → l < height p → k ≢ l → zero_ℚ <ℚ entry t k → zero_ℚ <ℚ entry t l → ¬ (quotient k ≡ quotient l)
    no_tie k l i o n positive_k positive_l same =
        let B = basic_columns p b in
        let tails : scale (reciprocal (entry t k)) (row_at b.inverse k) ≡ scale (reciprocal (entry t l)) (row_at b.inverse l) =
        ap (drop 1) (sym (ap (scale (reciprocal (entry t k))) (row_is k i)) ∙ same ∙ ap (scale (reciprocal (entry t l))) (row_is l o)) in
        let with : (q : ℕ) → dot (scale (reciprocal (entry t q)) (row_at b.inverse q)) (row_at B k) ≡ reciprocal (entry t q) *ℚ entry (unit_vector (height p) k) q =
        λ q. dot-scale_left (reciprocal (entry t q)) (row_at b.inverse q) (row_at B k)
        ∙ ap (λ s. reciprocal (entry t q) *ℚ s) (sym (entry-rows_dot b.inverse (row_at B k) q) ∙ ap (λ u. entry u q) (h.inverse.left k i)) in
        let one : reciprocal (entry t k) *ℚ one_ℚ ≡ reciprocal (entry t l) *ℚ zero_ℚ =
        ap (λ s. reciprocal (entry t k) *ℚ s) (sym (entry-unit_vector_same (height p) k i)) ∙ sym (with k) ∙ ap (λ u. dot u (row_at B k)) tails
        ∙ with l ∙ ap (λ s. reciprocal (entry t l) *ℚ s) (entry-unit_vector_other (height p) k l n) in
        lt_irrefl zero_ℚ (prove ordered_rationals (reciprocal (entry t k) ∷ reciprocal (entry t l) ∷ [])
        (λ a c. lit 0 ≺ lit 0 ⇐ given (lit 0 ≺ a) ⊞ given (a ⊗ lit 1 ≐ c ⊗ lit 0)) refl (reciprocal_positive positive_k) one)

    -- which places come into question
    abbrev May : ℕ → Type 0
    May k = (k < height p) × (zero_ℚ <ℚ entry t k)

    may : (k : ℕ) → May k ⊎ ¬ (May k)
    may k = by (is_below (height p) k) (le_or_lt (entry t k) zero_ℚ)
      where
        is_below : (m k : ℕ) → (k < m) ⊎ ¬ (k < m)
        is_below m k = by (nat_lt k m) refl
          where
            by : (b : Bool) → nat_lt k m ≡ b → (k < m) ⊎ ¬ (k < m)
            by true e = inl (grind (arith, nat_tests))
            by false e = inr (λ l. grind (arith, nat_tests))

        by : (k < height p) ⊎ ¬ (k < height p) → (entry t k ≤ℚ zero_ℚ) ⊎ (zero_ℚ <ℚ entry t k) → May k ⊎ ¬ (May k)
        by (inl i) (inl u) = inr (λ s. not-le_of_lt s.1 u)
        by (inl i) (inr u) = inl (i, u)
        by (inr n) u = inr (λ s. n s.0)

    quotient_size : (k l : ℕ) → k < height p → l < height p → length (quotient k) ≡ length (quotient l)
    quotient_size k l i o =
        length-scale (reciprocal (entry t k)) (row_at (tableau_rows p b) k) ∙ row_size k i ∙ sym (row_size l o)
        ∙ sym (length-scale (reciprocal (entry t l)) (row_at (tableau_rows p b) l))

    differ : (k l : ℕ) → May k → May l → k ≢ l → IsLexBelow (quotient k) (quotient l) ⊎ IsLexBelow (quotient l) (quotient k)
    differ k l i o n = by (below_total (quotient k) (quotient l) (quotient_size k l i.0 o.0))
      where
        by : IsLexBelow (quotient k) (quotient l) ⊎ (quotient k ≡ quotient l) ⊎ IsLexBelow (quotient l) (quotient k)
            → IsLexBelow (quotient k) (quotient l) ⊎ IsLexBelow (quotient l) (quotient k)
        by (inl r) = inl r
        by (inr (inl e)) = absurd (no_tie k l i.0 o.0 n i.1 o.1 e)
        by (inr (inr r)) = inr r

    -- a place leaves
    pub some_place : j < p.given → price p b j <ℚ zero_ℚ → (l : ℕ) × IsLeaving p b j l
    some_place within falling = by (has_least May may quotient differ (height p))
      where
        by : ((k : ℕ) → k < height p → ¬ (May k)) ⊎ ((l : ℕ) × IsLeastBelow May may quotient differ (height p) l) → (l : ℕ) × IsLeaving p b j l
        by (inl none) = absurd (some_coordinate within falling (λ k l u. none k l (l, u)))
        by (inr r) = (r.0, record { place = r.1.place; positive = r.1.holds.1; least = λ k i n u. r.1.least k i n (i, u) })

    -- and only one
    pub one_place : (k l : ℕ) → IsLeaving p b j k → IsLeaving p b j l → k ≡ l
    one_place k l i o = ⊎_elim (λ e. e) (λ n. absurd (below_irrefl (quotient k)
        (below_trans (quotient k) (quotient l) (quotient k) (i.least l o.place (λ e. n (sym e)) o.positive) (o.least k i.place n i.positive))))
        (same_or_other k l)

    -- the exchange there keeps the basis standing, and its level falls
    module _ (problem : IsProblem p) (within : j < width p) (l : ℕ) (leaving : IsLeaving p b j l) (standing : IsStanding p b) where
      nonzero : ¬ (entry t l ≡ zero_ℚ)
      nonzero = ne_of_lt leaving.positive

      positive : (k : ℕ) → k < height p → IsLexPositive (row_at (tableau_rows p b) k)
      positive k i = All-row_at IsLexPositive (tableau_rows p b) k (omega (arith, i, rows_size)) standing

      pub full_positive : IsLexPositive (quotient l)
      full_positive = positive-scale (reciprocal (entry t l)) (row_at (tableau_rows p b) l) (reciprocal_positive leaving.positive) (positive l leaving.place)

      same_size : (k : ℕ) → k < height p → length (row_at (tableau_rows p b) k) ≡ length (quotient l)
      same_size k i = row_size k i ∙ sym (row_size l leaving.place) ∙ sym (length-scale (reciprocal (entry t l)) (row_at (tableau_rows p b) l))

      shift_size : length (shift (height p) t l) ≡ length (tableau_rows p b)
      shift_size =
          Rattle.linear_basis_law.proofs.Pivots.d_size (height p) (basic_columns p b) b.inverse h.inverse (column_of p j) (length-column_of p j problem) l leaving.place nonzero
          ∙ sym rows_size

      new_row : (k : ℕ) → k < height p → row_at (tableau_rows p (exchanged p b j l)) k ≡ add_each (row_at (tableau_rows p b) k) (scale (entry (shift (height p) t l) k) (quotient l))
      new_row k i =
          ap (λ R. row_at R k) (rows_are p b problem h j l within leaving.place nonzero)
          ∙ row_at-add_multiples (shift (height p) t l) (quotient l) (tableau_rows p b) k shift_size (omega (arith, i, rows_size))

      new_positive : (k : ℕ) → k < height p → (k ≡ l) ⊎ (k ≢ l) → (entry t k ≤ℚ zero_ℚ) ⊎ (zero_ℚ <ℚ entry t k) → IsLexPositive (row_at (tableau_rows p (exchanged p b j l)) k)
      new_positive k i (inl e) u = subst (λ k. IsLexPositive (row_at (tableau_rows p (exchanged p b j l)) k)) (sym e)
          (subst IsLexPositive (sym (new_row l leaving.place
          ∙ ap (λ s. add_each (row_at (tableau_rows p b) l) (scale s (quotient l))) (factor_place p b problem h j l within leaving.place nonzero)
          ∙ divided_place (row_at (tableau_rows p b) l) (entry t l) (reciprocal (entry t l)) (mul-reciprocal (entry t l) nonzero))) full_positive)
      new_positive k i (inr n) u = subst IsLexPositive (sym (new_row k i
          ∙ ap (λ s. add_each (row_at (tableau_rows p b) k) (scale s (quotient l))) (factor_other p b problem h j l within leaving.place nonzero k n))) (by u)
        where
          by : (entry t k ≤ℚ zero_ℚ) ⊎ (zero_ℚ <ℚ entry t k) → IsLexPositive (add_each (row_at (tableau_rows p b) k) (scale (neg_ℚ (entry t k)) (quotient l)))
          by (inl u) = positive-add_multiple (row_at (tableau_rows p b) k) (quotient l) (neg_ℚ (entry t k)) (same_size k i)
              (prove ordered_rationals (entry t k ∷ []) (λ t. lit 0 ≼ minus t ⇐ given (t ≼ lit 0)) refl u) (positive k i) full_positive
          by (inr u) = less_multiple (quotient l) (row_at (tableau_rows p b) k) (entry t k) (reciprocal (entry t k)) (sym (same_size k i)) u
              (mul-reciprocal (entry t k) (ne_of_lt u)) (leaving.least k i n u)

      pub stays_standing : IsStanding p (exchanged p b j l)
      stays_standing =
          All-by_row_at IsLexPositive (tableau_rows p (exchanged p b j l)) (λ k i.
          new_positive k (omega (arith, i, new_size)) (same_or_other k l) (le_or_lt (entry t k) zero_ℚ))
        where
          new_size : length (tableau_rows p (exchanged p b j l)) ≡ height p
          new_size =
              ap length (rows_are p b problem h j l within leaving.place nonzero)
              ∙ length-add_multiples (shift (height p) t l) (quotient l) (tableau_rows p b) shift_size ∙ rows_size

      pub level_falls : price p b j <ℚ zero_ℚ → IsLexBelow (level p (exchanged p b j l)) (level p b)
      level_falls falling = subst (λ v. IsLexBelow v (level p b)) (sym (level_moves p b problem h j l within leaving.place nonzero))
          (falls (level p b) (quotient l) (price p b j) (ap suc (multipliers_size p b h) ∙ sym (row_size l leaving.place) ∙ same_size l leaving.place) falling full_positive)
