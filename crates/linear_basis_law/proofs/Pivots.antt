-- The pivot formulas.
use Rattle.std.proofs.Common.{inl, inr, ◌≡◌, ◌≢◌, refl, sym, subst, ◌∙◌, ap, ℕ, ◌<◌, ◌⊎◌, List, [], ◌∷◌, length, arith}
use Rattle.std.specs.Prelude.{slice_set}
use Rattle.algebra.proofs.Polynomial.{minus, ◌⊕◌, ◌⊗◌, ◌≐◌, ◌⊝◌, lit}
use Rattle.algebra.proofs.Solver.{ring}
use Rattle.algebra.proofs.Certificate.{prove, scaled, ◌⇐◌}
use Rattle.rational.specs.Rational.{ℚ, zero_ℚ, one_ℚ, ◌+ℚ◌, ◌-ℚ◌, ◌*ℚ◌, neg_ℚ, reciprocal}
use Rattle.rational.specs.Sums.{entry}
use Rattle.rational.specs.Vectors.{dot, add_each, scale, unit_vector, rows_dot, combine, column, row_at, HasColumns}
use Rattle.rational.proofs.Field.{rationals, mul-reciprocal}
use Rattle.rational.proofs.Order.{ordered_rationals}
use Rattle.rational.proofs.Vectors.{length-combine, length-rows_dot, length-unit_vector, length-row_at, length-scale, length-add_each, dot_comm, dot-unit_vector, dot-scale_left, dot-add_scale_left, dot-add_scale_right, same_by_dot, same_by_entries, entry-rows_dot, entry-add_each, entry-scale, entry-combine, entry-unit_vector_same, entry-unit_vector_other}
use Rattle.linear_basis_law.specs.Basis.{IsInverseOf}
use Rattle.linear_basis_law.specs.Exchange.{quotient_row, shift, pivoted}
use Rattle.linear_basis_law.proofs.Places.{same_or_other, length-slice_set, HasColumns-slice_set, row_at-set_same, row_at-set_other, column-slice_set, dot-slice_set, length-add_multiples, HasColumns-add_multiples, rows_dot-add_multiples}
use Rattle.linear_basis_law.proofs.Inverses.{dot-multipliers}

module _ (m : ℕ) (B N : List (List ℚ)) (h : IsInverseOf m B N) (a : List ℚ) (a_size : length a ≡ m) (l : ℕ) (place : l < m)
    (nonzero : ¬ (entry (rows_dot N a) l ≡ zero_ℚ)) where
  abbrev t : List ℚ
  t = rows_dot N a

  abbrev row : List ℚ
  row = quotient_row t N l

  abbrev d : List ℚ
  d = shift m t l

  t_size : length t ≡ m
  t_size = length-rows_dot N a ∙ h.rows

  pub row_size : length row ≡ m
  row_size = length-scale (reciprocal (entry t l)) (row_at N l) ∙ length-row_at m N l h.widths (omega (arith, place, h.rows))

  unit_size : length (unit_vector m l) ≡ length (scale (neg_ℚ one_ℚ) t)
  unit_size = length-unit_vector m l ∙ sym t_size ∙ sym (length-scale (neg_ℚ one_ℚ) t)

  pub d_size : length d ≡ m
  d_size = length-add_each (unit_vector m l) (scale (neg_ℚ one_ℚ) t) unit_size ∙ length-unit_vector m l

  pub d_rows : length d ≡ length N
  d_rows = d_size ∙ sym h.rows

  pub entry-d : (k : ℕ) → entry d k ≡ entry (unit_vector m l) k +ℚ neg_ℚ one_ℚ *ℚ entry t k
  entry-d k = entry-add_each (unit_vector m l) (scale (neg_ℚ one_ℚ) t) k unit_size ∙ ap (λ s. entry (unit_vector m l) k +ℚ s) (entry-scale (neg_ℚ one_ℚ) t k)

  pub dot-row : (v : List ℚ) → dot row v ≡ reciprocal (entry t l) *ℚ entry (rows_dot N v) l
  dot-row v = dot-scale_left (reciprocal (entry t l)) (row_at N l) v ∙ ap (λ s. reciprocal (entry t l) *ℚ s) (sym (entry-rows_dot N v l))

  row_itself : dot row a ≡ one_ℚ
  row_itself = dot-row a ∙ rationals.mul_comm (reciprocal (entry t l)) (entry t l) ∙ mul-reciprocal (entry t l) nonzero

  -- the new inverse with a vector
  pub pivoted_with : (v : List ℚ) → rows_dot (pivoted m t N l) v ≡ add_each (rows_dot N v) (scale (dot row v) d)
  pivoted_with v = rows_dot-add_multiples m d row N v row_size h.widths d_rows

  pivoted_size : (v : List ℚ) → length (rows_dot N v) ≡ length (scale (dot row v) d)
  pivoted_size v = length-rows_dot N v ∙ h.rows ∙ sym (length-scale (dot row v) d ∙ d_size)

  entry-pivoted : (v : List ℚ) (k : ℕ) → entry (rows_dot (pivoted m t N l) v) k
      ≡ entry (rows_dot N v) k +ℚ dot row v *ℚ (entry (unit_vector m l) k +ℚ neg_ℚ one_ℚ *ℚ entry t k)
  entry-pivoted v k =
      ap (λ u. entry u k) (pivoted_with v) ∙ entry-add_each (rows_dot N v) (scale (dot row v) d) k (pivoted_size v)
      ∙ ap (λ s. entry (rows_dot N v) k +ℚ s) (entry-scale (dot row v) d k ∙ ap (λ s. dot row v *ℚ s) (entry-d k))

  -- at l it is the product with the divided row
  pub entry-pivoted_place : (v : List ℚ) → entry (rows_dot (pivoted m t N l) v) l ≡ dot row v
  entry-pivoted_place v =
      let e = entry-unit_vector_same m l place in
      entry-pivoted v l ∙ ap (λ s. entry (rows_dot N v) l +ℚ dot row v *ℚ (s +ℚ neg_ℚ one_ℚ *ℚ entry t l)) e
      ∙ ap (λ q. entry (rows_dot N v) l +ℚ q *ℚ (one_ℚ +ℚ neg_ℚ one_ℚ *ℚ entry t l)) (dot-row v)
      ∙ prove ordered_rationals (entry (rows_dot N v) l ∷ entry t l ∷ reciprocal (entry t l) ∷ [])
      (λ x t i. x ⊕ (i ⊗ x) ⊗ (lit 1 ⊕ minus (lit 1) ⊗ t) ≐ i ⊗ x ⇐ scaled (minus x) (t ⊗ i) (lit 1)) refl (mul-reciprocal (entry t l) nonzero)
      ∙ sym (dot-row v)

  abbrev C : List (List ℚ)
  C = slice_set B l a

  abbrev K : List (List ℚ)
  K = pivoted m t N l

  K_size : (v : List ℚ) → length (rows_dot K v) ≡ m
  K_size v = length-rows_dot K v ∙ length-add_multiples d row N d_rows ∙ h.rows

  left_same : rows_dot K a ≡ unit_vector m l
  left_same = same_by_entries _ _ (K_size a ∙ sym (length-unit_vector m l)) (λ k j.
      entry-pivoted a k ∙ ap (λ q. entry t k +ℚ q *ℚ (entry (unit_vector m l) k +ℚ neg_ℚ one_ℚ *ℚ entry t k)) row_itself
      ∙ ring rationals (entry t k ∷ entry (unit_vector m l) k ∷ []) (λ t e. t ⊕ lit 1 ⊗ (e ⊕ minus (lit 1) ⊗ t) ≐ e) refl)

  left_other : (i : ℕ) → i < m → i ≢ l → rows_dot K (row_at B i) ≡ unit_vector m i
  left_other i j n = same_by_entries _ _ (K_size (row_at B i) ∙ sym (length-unit_vector m i)) (λ k o. at k)
    where
      nothing : dot row (row_at B i) ≡ zero_ℚ
      nothing =
          dot-row (row_at B i) ∙ ap (λ u. reciprocal (entry t l) *ℚ entry u l) (h.left i j)
          ∙ ap (λ s. reciprocal (entry t l) *ℚ s) (entry-unit_vector_other m i l n)
          ∙ ring rationals (reciprocal (entry t l) ∷ []) (λ r. r ⊗ lit 0 ≐ lit 0) refl

      at : (k : ℕ) → entry (rows_dot K (row_at B i)) k ≡ entry (unit_vector m i) k
      at k =
          let e : ℚ = entry (unit_vector m l) k +ℚ neg_ℚ one_ℚ *ℚ entry t k in
          entry-pivoted (row_at B i) k ∙ ap (λ q. entry (rows_dot N (row_at B i)) k +ℚ q *ℚ e) nothing
          ∙ ring rationals (entry (rows_dot N (row_at B i)) k ∷ e ∷ []) (λ x e. x ⊕ lit 0 ⊗ e ≐ x) refl ∙ ap (λ u. entry u k) (h.left i j)

  pub new_left : (i : ℕ) → i < m → rows_dot K (row_at C i) ≡ unit_vector m i
  new_left i j = by (same_or_other i l)
    where
      by : (i ≡ l) ⊎ (i ≢ l) → rows_dot K (row_at C i) ≡ unit_vector m i
      by (inl e) = subst (λ i. rows_dot K (row_at C i) ≡ unit_vector m i) (sym e) (ap (rows_dot K) (row_at-set_same B l a (omega (arith, place, h.columns))) ∙ left_same)
      by (inr n) = ap (rows_dot K) (row_at-set_other B l a i n) ∙ left_other i j n

  pub new_heights : HasColumns m C
  new_heights = HasColumns-slice_set m B l a h.heights a_size

  -- a sum with the new coordinates and the old columns, or old costs
  pub dot-pivoted : (c v : List ℚ) → length c ≡ m
      → dot c (rows_dot K v) ≡ dot c (rows_dot N v) +ℚ dot row v *ℚ (entry c l -ℚ dot c t)
  dot-pivoted c v e =
      ap (dot c) (pivoted_with v) ∙ dot-add_scale_right c (rows_dot N v) (dot row v) d (length-rows_dot N v ∙ h.rows ∙ sym d_size)
      ∙ ap (λ s. dot c (rows_dot N v) +ℚ dot row v *ℚ s) with_d
    where
      with_d : dot c d ≡ entry c l -ℚ dot c t
      with_d =
          dot-add_scale_right c (unit_vector m l) (neg_ℚ one_ℚ) t (length-unit_vector m l ∙ sym t_size)
          ∙ ap (λ s. s +ℚ neg_ℚ one_ℚ *ℚ dot c t) (dot_comm c (unit_vector m l) ∙ dot-unit_vector m l c (omega (arith, e)))
          ∙ ring rationals (entry c l ∷ dot c t ∷ []) (λ c t. c ⊕ minus (lit 1) ⊗ t ≐ c ⊝ t) refl

  -- the same with the changed ones
  pub dot-changed : (c v : List ℚ) (s : ℚ) → length c ≡ m
      → dot (slice_set c l s) (rows_dot K v) ≡ dot c (rows_dot N v) +ℚ dot row v *ℚ (s -ℚ dot c t)
  dot-changed c v s e =
      dot-slice_set c (rows_dot K v) l s (omega (arith, place, e))
      ∙ ap (λ q. dot c (rows_dot K v) +ℚ q *ℚ (s -ℚ entry c l)) (entry-pivoted_place v)
      ∙ ap (λ x. x +ℚ dot row v *ℚ (s -ℚ entry c l)) (dot-pivoted c v e)
      ∙ ring rationals (dot c (rows_dot N v) ∷ dot row v ∷ entry c l ∷ dot c t ∷ s ∷ [])
      (λ x q c t s. (x ⊕ q ⊗ (c ⊝ t)) ⊕ q ⊗ (s ⊝ c) ≐ x ⊕ q ⊗ (s ⊝ t)) refl

  pub new_spans : (v : List ℚ) → length v ≡ m → combine m (rows_dot K v) C ≡ v
  new_spans v e =
      same_by_entries _ _ (length-combine m (rows_dot K v) C new_heights ∙ sym e) (λ j k. at j)
    where
      col : (j : ℕ) → length (column j B) ≡ m
      col j = Rattle.rational.proofs.Vectors.length-column j B ∙ h.columns

      old : (j : ℕ) (u : List ℚ) → length u ≡ m → dot (column j B) (rows_dot N u) ≡ entry u j
      old j u f =
          dot_comm (column j B) (rows_dot N u) ∙ sym (entry-combine m (rows_dot N u) B j h.heights) ∙ ap (λ w. entry w j) (h.spans u f)

      at : (j : ℕ) → entry (combine m (rows_dot K v) C) j ≡ entry v j
      at j =
          entry-combine m (rows_dot K v) C j new_heights ∙ dot_comm (rows_dot K v) (column j C) ∙ ap (λ c. dot c (rows_dot K v)) (column-slice_set j B l a)
          ∙ dot-changed (column j B) v (entry a j) (col j) ∙ ap (λ x. x +ℚ dot row v *ℚ (entry a j -ℚ dot (column j B) t)) (old j v e)
          ∙ ap (λ x. entry v j +ℚ dot row v *ℚ (entry a j -ℚ x)) (old j a a_size)
          ∙ ring rationals (entry v j ∷ dot row v ∷ entry a j ∷ []) (λ v q a. v ⊕ q ⊗ (a ⊝ a) ≐ v) refl

  -- the pivoted rows are the inverse of the changed columns
  pub pivot_inverts : IsInverseOf m C K
  pivot_inverts = record {
    columns = length-slice_set B l a ∙ h.columns;
    heights = new_heights;
    rows = length-add_multiples d row N d_rows ∙ h.rows;
    widths = HasColumns-add_multiples m d row N row_size h.widths;
    left = new_left;
    spans = new_spans;
  }

  -- the multipliers move along the divided row by the price
  pub new_multipliers : (c : List ℚ) (s : ℚ) → length c ≡ m
      → combine m (slice_set c l s) K ≡ add_each (combine m c N) (scale (s -ℚ dot (combine m c N) a) row)
  new_multipliers c s e =
      let y = combine m c N in
      let y_size : length y ≡ m = length-combine m c N h.widths in
      let p = s -ℚ dot y a in
      let sum_size : length (add_each y (scale p row)) ≡ m = length-add_each y (scale p row) (y_size ∙ sym (length-scale p row ∙ row_size)) ∙ y_size in
      same_by_dot _ _ (length-combine m (slice_set c l s) K (pivot_inverts.widths) ∙ sym sum_size) (λ w k.
      dot_comm w (combine m (slice_set c l s) K) ∙ dot-multipliers m C K pivot_inverts (slice_set c l s) w ∙ dot-changed c w s e
      ∙ ap (λ x. x +ℚ dot row w *ℚ (s -ℚ dot c t)) (sym (dot-multipliers m B N h c w))
      ∙ ap (λ x. dot y w +ℚ dot row w *ℚ (s -ℚ x)) (sym (dot-multipliers m B N h c a))
      ∙ ring rationals (dot y w ∷ dot row w ∷ p ∷ []) (λ y q p. y ⊕ q ⊗ p ≐ y ⊕ p ⊗ q) refl
      ∙ sym (dot-add_scale_left y p row w (y_size ∙ sym row_size)) ∙ dot_comm (add_each y (scale p row)) w)
