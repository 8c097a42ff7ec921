-- An exchange keeps a basis standing only at the place that leaves by the ratio rule.
use Rattle.std.proofs.Common.{inl, inr, ⊎_elim, ◌≡◌, refl, sym, subst, ◌∙◌, ap, ℕ, ◌<◌, List, [], ◌∷◌, length, arith}
use Rattle.std.specs.Prelude.{◌⊎◌}
use Rattle.algebra.proofs.Polynomial.{minus, ◌⊕◌, ◌⊗◌, ◌≐◌, ◌≼◌, ◌≺◌, lit}
use Rattle.algebra.proofs.Certificate.{prove, given, scaled, weight, ◌⊞◌, ◌⊠◌, ◌⇐◌}
use Rattle.rational.specs.Rational.{ℚ, zero_ℚ, one_ℚ, ◌*ℚ◌, neg_ℚ, reciprocal}
use Rattle.rational.specs.Order.{◌≤ℚ◌, ◌<ℚ◌}
use Rattle.rational.specs.Sums.{entry}
use Rattle.rational.specs.Vectors.{add_each, scale, row_at}
use Rattle.rational.proofs.Field.{mul-reciprocal}
use Rattle.rational.proofs.Order.{ordered_rationals, lt_irrefl, le_or_lt, le_antisymm}
use Rattle.rational.proofs.OrderLaws.{ne_of_lt, reciprocal_positive}
use Rattle.rational.proofs.Vectors.{length-rows_dot, length-scale}
use Rattle.elimination_law.proofs.Vectors.{length-right_beside}
use Rattle.linear_basis_law.specs.Problem.{Problem, IsProblem, height, width, column_of}
use Rattle.linear_basis_law.specs.Lexicographic.{IsLexPositive, IsLexBelow}
use Rattle.linear_basis_law.specs.Basis.{Tableau, IsBasis, IsStanding, basic_columns, point, tableau_rows}
use Rattle.linear_basis_law.specs.Exchange.{coordinates, quotient_row, shift, exchanged, IsLeaving}
use Rattle.linear_basis_law.proofs.Places.{row_at-add_multiples, length-add_multiples}
use Rattle.linear_basis_law.proofs.Pivots.{d_size}
use Rattle.linear_basis_law.proofs.Bases.{length-column_of}
use Rattle.linear_basis_law.proofs.Changes.{rows_are, factor_place, factor_other, divided_place}
use Rattle.linear_basis_law.proofs.Leaving.{All-row_at, row_size}

-- where v less t times u is positive, u is below v / t
multiple_less : (u v : List ℚ) (t i : ℚ) → length u ≡ length v → zero_ℚ <ℚ i → t *ℚ i ≡ one_ℚ → IsLexPositive (add_each v (scale (neg_ℚ t) u)) → IsLexBelow u (scale i v)
multiple_less u [] t i e p f h = absurd h
multiple_less [] (y ∷ v) t i e p f h = absurd (omega arith)
multiple_less (x ∷ u) (y ∷ v) t i e p f (inl h) =
    inl (prove ordered_rationals (x ∷ y ∷ t ∷ i ∷ []) (λ x y t i. x ≺ i ⊗ y ⇐ (given (lit 0 ≺ i) ⊠ given (lit 0 ≺ y ⊕ minus t ⊗ x)) ⊞ scaled (minus x) (t ⊗ i) (lit 1)) refl p h f)
multiple_less (x ∷ u) (y ∷ v) t i e p f (inr h) =
    inr (
      prove ordered_rationals (x ∷ y ∷ t ∷ i ∷ [])
          (λ x y t i. x ≐ i ⊗ y ⇐ scaled (minus i) (y ⊕ minus t ⊗ x) (lit 0) ⊞ scaled (minus x) (t ⊗ i) (lit 1)) refl h.0 f,
      multiple_less u v t i (omega arith) p f h.1,
    )

-- a multiple below 0 of a positive list is not positive
turned : (s : ℚ) (u : List ℚ) → s <ℚ zero_ℚ → IsLexPositive u → ¬ (IsLexPositive (scale s u))
turned s [] n h k = h
turned s (x ∷ u) n (inl h) (inl k) =
    lt_irrefl zero_ℚ (prove ordered_rationals (s ∷ x ∷ []) (λ s x. lit 0 ≺ lit 0 ⇐ (given (s ≺ lit 0) ⊠ given (lit 0 ≺ x)) ⊞ given (lit 0 ≺ s ⊗ x)) refl n h k)
turned s (x ∷ u) n (inl h) (inr k) =
    lt_irrefl zero_ℚ (prove ordered_rationals (s ∷ x ∷ []) (λ s x. lit 0 ≺ lit 0 ⇐ (given (s ≺ lit 0) ⊠ given (lit 0 ≺ x)) ⊞ given (lit 0 ≐ s ⊗ x)) refl n h (sym k.0))
turned s (x ∷ u) n (inr h) (inl k) =
    lt_irrefl zero_ℚ (prove ordered_rationals (s ∷ x ∷ []) (λ s x. lit 0 ≺ lit 0 ⇐ given (lit 0 ≺ s ⊗ x) ⊞ scaled s x (lit 0)) refl k h.0)
turned s (x ∷ u) n (inr h) (inr k) = turned s u n h.1 k.1

reciprocal_negative : (t i : ℚ) → t *ℚ i ≡ one_ℚ → t <ℚ zero_ℚ → i <ℚ zero_ℚ
reciprocal_negative t i e n = ⊎_elim
    (λ u. absurd (lt_irrefl zero_ℚ (prove ordered_rationals (t ∷ i ∷ [])
    (λ t i. lit 0 ≺ lit 0 ⇐ (given (t ≺ lit 0) ⊠ given (lit 0 ≼ i)) ⊞ given (lit 1 ≐ t ⊗ i) ⊞ weight 1) refl n u (sym e))))
    (λ u. u) (le_or_lt zero_ℚ i)

module _ (p : Problem) (b : Tableau) (problem : IsProblem p) (h : IsBasis p b) (standing : IsStanding p b) (j l : ℕ) (within : j < width p) (place : l < height p)
    (nonzero : ¬ (entry (coordinates p b j) l ≡ zero_ℚ)) (new_standing : IsStanding p (exchanged p b j l)) where
  abbrev t : List ℚ
  t = coordinates p b j

  abbrev quotient : ℕ → List ℚ
  quotient k = quotient_row t (tableau_rows p b) k

  rows_size : length (tableau_rows p b) ≡ height p
  rows_size = length-right_beside (point p b) b.inverse (length-rows_dot b.inverse p.right) ∙ h.inverse.rows

  shift_size : length (shift (height p) t l) ≡ length (tableau_rows p b)
  shift_size = d_size (height p) (basic_columns p b) b.inverse h.inverse (column_of p j) (length-column_of p j problem) l place nonzero ∙ sym rows_size

  new_row : (k : ℕ) → k < height p → row_at (tableau_rows p (exchanged p b j l)) k ≡ add_each (row_at (tableau_rows p b) k) (scale (entry (shift (height p) t l) k) (quotient l))
  new_row k i =
      ap (λ R. row_at R k) (rows_are p b problem h j l within place nonzero)
      ∙ row_at-add_multiples (shift (height p) t l) (quotient l) (tableau_rows p b) k shift_size (omega (arith, i, rows_size))

  new_size : length (tableau_rows p (exchanged p b j l)) ≡ height p
  new_size =
      ap length (rows_are p b problem h j l within place nonzero)
      ∙ length-add_multiples (shift (height p) t l) (quotient l) (tableau_rows p b) shift_size ∙ rows_size

  new_positive : (k : ℕ) → k < height p → IsLexPositive (row_at (tableau_rows p (exchanged p b j l)) k)
  new_positive k i = All-row_at IsLexPositive (tableau_rows p (exchanged p b j l)) k (omega (arith, i, new_size)) new_standing

  full_positive : IsLexPositive (quotient l)
  full_positive = subst IsLexPositive (new_row l place
      ∙ ap (λ s. add_each (row_at (tableau_rows p b) l) (scale s (quotient l))) (factor_place p b problem h j l within place nonzero)
      ∙ divided_place (row_at (tableau_rows p b) l) (entry t l) (reciprocal (entry t l)) (mul-reciprocal (entry t l) nonzero)) (new_positive l place)

  positive : zero_ℚ <ℚ entry t l
  positive = by (le_or_lt (entry t l) zero_ℚ) (le_or_lt zero_ℚ (entry t l))
    where
      by : (entry t l ≤ℚ zero_ℚ) ⊎ (zero_ℚ <ℚ entry t l) → (zero_ℚ ≤ℚ entry t l) ⊎ (entry t l <ℚ zero_ℚ) → zero_ℚ <ℚ entry t l
      by (inr u) v = u
      by (inl u) (inl v) = absurd (nonzero (le_antisymm (entry t l) zero_ℚ u v))
      by (inl u) (inr v) = absurd (turned (reciprocal (entry t l)) (row_at (tableau_rows p b) l)
          (reciprocal_negative (entry t l) (reciprocal (entry t l)) (mul-reciprocal (entry t l) nonzero) v)
          (All-row_at IsLexPositive (tableau_rows p b) l (omega (arith, place, rows_size)) standing) full_positive)

  pub only_leaving : IsLeaving p b j l
  only_leaving = record {
    place = place;
    positive = positive;
    least = λ k i n u. multiple_less (quotient l) (row_at (tableau_rows p b) k) (entry t k) (reciprocal (entry t k))
        (length-scale (reciprocal (entry t l)) (row_at (tableau_rows p b) l) ∙ row_size p b h l place ∙ sym (row_size p b h k i))
        (reciprocal_positive u) (mul-reciprocal (entry t k) (ne_of_lt u))
        (subst IsLexPositive (new_row k i ∙ ap (λ s. add_each (row_at (tableau_rows p b) k) (scale s (quotient l))) (factor_other p b problem h j l within place nonzero k n))
        (new_positive k i));
  }
