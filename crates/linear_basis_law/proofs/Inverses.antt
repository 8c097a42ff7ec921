-- What the inverse of a list of columns gives.
use Rattle.std.proofs.Common.{inl, inr, ◌≡◌, refl, sym, ◌∙◌, ap, ℕ, suc, ◌<◌, List, [], ◌∷◌, length, arith}
use Rattle.rational.specs.Rational.{ℚ}
use Rattle.rational.specs.Sums.{entry}
use Rattle.rational.specs.Vectors.{dot, zeros, unit_vector, rows_dot, combine, row_at}
use Rattle.rational.proofs.Vectors.{length-combine, length-rows_dot, length-unit_vector, length-row_at, length-zeros, dot_comm, dot-unit_vector, dot-zeros_right, transpose, same_by_dot, same_by_entries, entry-rows_dot, entry-zeros, entry-unit_vector_other}
use Rattle.linear_basis_law.specs.Basis.{IsInverseOf}
use Rattle.linear_basis_law.proofs.Places.{same_or_other}
use Rattle.std.specs.Prelude.{◌⊎◌, ◌≢◌}
use Rattle.std.proofs.Common.{subst}

-- the unit vectors are symmetric
pub unit-swap : (m i l : ℕ) → i < m → l < m → entry (unit_vector m l) i ≡ entry (unit_vector m i) l
unit-swap m i l hi hl = by (same_or_other i l)
  where
    by : (i ≡ l) ⊎ (i ≢ l) → entry (unit_vector m l) i ≡ entry (unit_vector m i) l
    by (inl e) = subst (λ l. entry (unit_vector m l) i ≡ entry (unit_vector m i) l) e refl
    by (inr n) = entry-unit_vector_other m l i (λ e. n (sym e)) ∙ sym (entry-unit_vector_other m i l n)

module _ (m : ℕ) (B N : List (List ℚ)) (h : IsInverseOf m B N) where
  -- each product goes through the coordinates of one vector and the products of the other with the columns
  pub through : (w v : List ℚ) → length v ≡ m → dot w v ≡ dot (rows_dot N v) (rows_dot B w)
  through w v e =
      ap (dot w) (sym (h.spans v e)) ∙ dot_comm w (combine m (rows_dot N v) B) ∙ sym (transpose m (rows_dot N v) B w h.heights)

  -- the multipliers with costs c
  pub dot-multipliers : (c v : List ℚ) → dot (combine m c N) v ≡ dot c (rows_dot N v)
  dot-multipliers c v = sym (transpose m c N v h.widths)

  pub multipliers_cost : (c : List ℚ) (l : ℕ) → length c ≡ m → l < m → dot (combine m c N) (row_at B l) ≡ entry c l
  multipliers_cost c l e k =
      dot-multipliers c (row_at B l) ∙ ap (dot c) (h.left l k) ∙ dot_comm c (unit_vector m l) ∙ dot-unit_vector m l c (omega (arith, e))

  -- only they give each column its cost
  pub multipliers_only : (c y : List ℚ) → length y ≡ m → rows_dot B y ≡ c → y ≡ combine m c N
  multipliers_only c y e f =
      same_by_dot y (combine m c N) (e ∙ sym (length-combine m c N h.widths)) (λ w k.
      dot_comm w y ∙ through y w (k ∙ e) ∙ ap (dot (rows_dot N w)) f ∙ dot_comm (rows_dot N w) c ∙ sym (dot-multipliers c w) ∙ dot_comm (combine m c N) w)

  -- the columns with row i of the inverse
  pub columns_with_row : (i : ℕ) → i < m → rows_dot B (row_at N i) ≡ unit_vector m i
  columns_with_row i k =
      same_by_entries _ _ (length-rows_dot B (row_at N i) ∙ h.columns ∙ sym (length-unit_vector m i)) (λ l j. at l (omega (arith, j, length-rows_dot B (row_at N i), h.columns)))
    where
      at : (l : ℕ) → l < m → entry (rows_dot B (row_at N i)) l ≡ entry (unit_vector m i) l
      at l j =
          entry-rows_dot B (row_at N i) l ∙ dot_comm (row_at B l) (row_at N i) ∙ sym (entry-rows_dot N (row_at B l) i)
          ∙ ap (λ u. entry u i) (h.left l j) ∙ unit-swap m i l k j

  -- the columns are independent
  pub independent : (z : List ℚ) → length z ≡ m → combine m z B ≡ zeros m → z ≡ zeros m
  independent z e f = same_by_entries _ _ (e ∙ sym (length-zeros m)) (λ i k. at i (omega (arith, k, e)))
    where
      at : (i : ℕ) → i < m → entry z i ≡ entry (zeros m) i
      at i k =
          sym (dot-unit_vector m i z (omega (arith, e))) ∙ dot_comm (unit_vector m i) z ∙ ap (dot z) (sym (columns_with_row i k))
          ∙ transpose m z B (row_at N i) h.heights ∙ ap (λ u. dot u (row_at N i)) f ∙ dot_comm (zeros m) (row_at N i)
          ∙ dot-zeros_right (row_at N i) m ∙ sym (entry-zeros m i)

-- lists of rows are the same where their rows are
pub same_by_rows : (A C : List (List ℚ)) → length A ≡ length C → ((i : ℕ) → i < length A → row_at A i ≡ row_at C i) → A ≡ C
same_by_rows [] [] e f = refl
same_by_rows [] (c ∷ C) e f = absurd (omega arith)
same_by_rows (a ∷ A) [] e f = absurd (omega arith)
same_by_rows (a ∷ A) (c ∷ C) e f = ap (λ x. x ∷ A) (f 0 (omega arith)) ∙ ap (λ x. c ∷ x) (same_by_rows A C (omega arith) (λ i k. f (suc i) (omega arith)))

-- one list of columns has one inverse
pub inverse_only : (m : ℕ) (B N K : List (List ℚ)) → IsInverseOf m B N → IsInverseOf m B K → N ≡ K
inverse_only m B N K h k =
    same_by_rows N K (h.rows ∙ sym k.rows) (λ i l. row i (omega (arith, l, h.rows)))
  where
    row : (i : ℕ) → i < m → row_at N i ≡ row_at K i
    row i l =
        let e : length (row_at N i) ≡ m = length-row_at m N i h.widths (omega (arith, l, h.rows)) in
        multipliers_only m B K k (unit_vector m i) (row_at N i) e (columns_with_row m B N h i l)
        ∙ sym (multipliers_only m B K k (unit_vector m i) (row_at K i) (length-row_at m K i k.widths (omega (arith, l, k.rows))) (columns_with_row m B K k i l))
