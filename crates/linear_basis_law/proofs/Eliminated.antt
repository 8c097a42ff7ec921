-- The elimination of the basic columns gives their inverse.
use Rattle.std.proofs.Common.{◌≡◌, sym, subst, ◌∙◌, ap, ℕ, ◌+◌, ◌<◌, List, length, arith, map}
use Rattle.std.specs.Prelude.{All, slice_index_or, Option, Some, None}
use Rattle.std.proofs.lemmas.List.FromFn.{length-range_with_len, get_or-range_with_len}
use Rattle.rational.specs.Rational.{ℚ}
use Rattle.rational.specs.Sums.{entry}
use Rattle.rational.specs.Vectors.{dot, zeros, unit_vector, rows_dot, combine, column, row_at, HasColumns}
use Rattle.rational.proofs.Vectors.{length-combine, length-rows_dot, length-unit_vector, length-row_at, length-column, dot_comm, dot-unit_vector, same_by_entries, entry-rows_dot, entry-combine, entry-column}
use Rattle.elimination_law.specs.Answers.{inverse}
use Rattle.elimination_law.specs.Meaning.{IsInverse, IsInverseOrDepends}
use Rattle.elimination_law.proofs.Inverted.{inverse_or_depends}
use Rattle.linear_basis_law.specs.Problem.{Problem, IsProblem, height, width, column_of}
use Rattle.linear_basis_law.specs.Basis.{Tableau, IsBasis, IsInverseOf, basic_columns}
use Rattle.linear_basis_law.specs.Operations.{below, basic_matrix}
use Rattle.linear_basis_law.proofs.Inverses.{independent, inverse_only}
use Rattle.linear_basis_law.proofs.Bases.{length-mapped, row_at-map, length-column_of}
use Rattle.linear_basis_law.proofs.Leaving.{All-by_row_at}

module _ (m : ℕ) (B : List (List ℚ)) (size : length B ≡ m) (heights : HasColumns m B) where
  -- the matrix with the columns of B
  abbrev pub M : List (List ℚ)
  M = map (λ i. column i B) (below m)

  pub M_rows : length M ≡ m
  M_rows = length-mapped (λ i. column i B) (below m) ∙ length-range_with_len 0 m

  M_row : (i : ℕ) → i < m → row_at M i ≡ column i B
  M_row i l =
      row_at-map (λ i. column i B) (below m) i 0 (omega (arith, l, length-range_with_len 0 m))
      ∙ ap (λ i. column i B) (get_or-range_with_len 0 m i 0 l ∙ at i)
    where
      at : (i : ℕ) → 0 + i ≡ i
      at i = omega arith

  pub M_columns : HasColumns m M
  M_columns = All-by_row_at (λ r. length r ≡ m) M (λ i l. ap length (M_row i (omega (arith, l, M_rows))) ∙ length-column i B ∙ size)

  -- it sums the columns
  sums : (z : List ℚ) → rows_dot M z ≡ combine m z B
  sums z =
      same_by_entries _ _ (length-rows_dot M z ∙ M_rows ∙ sym (length-combine m z B heights))
      (λ i l. at i (omega (arith, l, length-rows_dot M z, M_rows)))
    where
      at : (i : ℕ) → i < m → entry (rows_dot M z) i ≡ entry (combine m z B) i
      at i l = entry-rows_dot M z i ∙ ap (λ r. dot r z) (M_row i l) ∙ dot_comm (column i B) z ∙ sym (entry-combine m z B i heights)

  one_column : (l : ℕ) → l < m → combine m (unit_vector m l) B ≡ row_at B l
  one_column l k =
      same_by_entries _ _ (length-combine m (unit_vector m l) B heights ∙ sym (length-row_at m B l heights (omega (arith, k, size))))
      (λ i j. entry-combine m (unit_vector m l) B i heights ∙ dot-unit_vector m l (column i B) (omega (arith, length-column i B, size)) ∙ entry-column i B l)

  pub from_matrix : (N : List (List ℚ)) → IsInverse m M N → IsInverseOf m B N
  from_matrix N h = record {
    columns = size;
    heights = heights;
    rows = h.rows;
    widths = h.columns;
    left = λ l k. ap (rows_dot N) (sym (one_column l k) ∙ sym (sums (unit_vector m l))) ∙ h.back (unit_vector m l) (length-unit_vector m l);
    spans = λ v e. sym (sums (rows_dot N v)) ∙ h.spans v e;
  }

  -- an inverse is what the elimination gives
  pub eliminated_inverse : (N : List (List ℚ)) → IsInverseOf m B N → inverse m M ≡ Some N
  eliminated_inverse N h = by (inverse m M) (inverse_or_depends m M M_columns M_rows)
    where
      by : (answer : Option (List (List ℚ))) → IsInverseOrDepends m M answer → answer ≡ Some N
      by (Some K) k = ap (λ N. Some N) (inverse_only m B K N (from_matrix K k) h)
      by None d = absurd (d.1.nonzero (independent m B N h d.0 d.1.size (sym (sums d.0) ∙ d.1.combined ∙ ap zeros M_rows)))

  -- and what it gives is one
  pub inverse_eliminated : (N : List (List ℚ)) → inverse m M ≡ Some N → IsInverseOf m B N
  inverse_eliminated N e = from_matrix N (subst (IsInverseOrDepends m M) e (inverse_or_depends m M M_columns M_rows))

pub basis_eliminated : (p : Problem) (b : Tableau) → IsBasis p b → inverse (height p) (basic_matrix p b) ≡ Some b.inverse
basis_eliminated p b h = eliminated_inverse (height p) (basic_columns p b) h.inverse.columns h.inverse.heights b.inverse h.inverse

pub eliminated_basis : (p : Problem) (b : Tableau) → IsProblem p → length b.columns ≡ height p → All (λ j. j < width p) b.columns
    → inverse (height p) (basic_matrix p b) ≡ Some b.inverse → IsBasis p b
eliminated_basis p b problem e within f = record {
  within = within;
  inverse = inverse_eliminated (height p) (basic_columns p b) size heights b.inverse f;
}
  where
    size : length (basic_columns p b) ≡ height p
    size = length-mapped (column_of p) b.columns ∙ e

    heights : HasColumns (height p) (basic_columns p b)
    heights = All-by_row_at (λ r. length r ≡ height p) (basic_columns p b) (λ k l.
        ap length (row_at-map (column_of p) b.columns k 0 (omega (arith, l, length-mapped (column_of p) b.columns)))
        ∙ length-column_of p (slice_index_or b.columns k 0) problem)
