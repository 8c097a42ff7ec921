-- The unit columns are a standing basis where r is at least 0.
use Rattle.std.proofs.Common.{inl, inr, ⊎_elim, ◌≡◌, refl, sym, subst, ◌∙◌, ap, ℕ, zero, suc, ◌+◌, ◌-◌, ◌<◌, ◌≤◌, List, [], ◌∷◌, length, arith, map, replicate}
use Rattle.std.specs.Prelude.{All}
use Rattle.std.specs.List.{range_with_len}
use Rattle.std.proofs.lemmas.List.Elements.{All-from_recursion, All-nil, All-cons, All-get_or}
use Rattle.rational.specs.Rational.{ℚ, zero_ℚ, one_ℚ}
use Rattle.rational.specs.Order.{◌≤ℚ◌}
use Rattle.rational.specs.Sums.{entry}
use Rattle.rational.specs.Vectors.{dot, unit_vector, rows_dot, combine, row_at, HasColumns}
use Rattle.rational.proofs.Order.{ordered_rationals, le_or_lt, le_antisymm}
use Rattle.algebra.proofs.Polynomial.{◌≺◌, lit}
use Rattle.algebra.proofs.Certificate.{prove, weight, ◌⇐◌}
use Rattle.rational.proofs.Vectors.{length-unit_vector, length-rows_dot, length-combine, dot_comm, dot-unit_vector, transpose, same_by_dot}
use Rattle.elimination_law.specs.Answers.{unit_rows, unit_matrix}
use Rattle.elimination_law.proofs.Vectors.{length-unit_rows, width-unit_rows, rows_dot-unit, length-right_beside}
use Rattle.linear_basis_law.specs.Problem.{Problem, IsProblem, height, width, column_of, cost_of}
use Rattle.linear_basis_law.specs.Lexicographic.{IsLexPositive}
use Rattle.linear_basis_law.specs.Basis.{IsBasis, IsInverseOf, IsStanding, basic_columns, point, multipliers, tableau_rows, unit_basis}
use Rattle.linear_basis_law.proofs.Places.{row_at-beside}
use Rattle.linear_basis_law.proofs.Bases.{column_of-unit, cost_of-unit}
use Rattle.linear_basis_law.proofs.Leaving.{All-by_row_at}

unit_columns : (p : Problem) (a i k : ℕ) → a ≡ p.given + i → map (column_of p) (range_with_len a k) ≡ unit_rows (height p) i k
unit_columns p a i zero e = refl
unit_columns p a i (suc k) e =
    ap (λ u. u ∷ map (column_of p) (range_with_len (a + 1) k)) (column_of-unit p a (omega (arith, e)) ∙ ap (unit_vector (height p)) (place a i p.given e))
    ∙ ap (λ rest. unit_vector (height p) i ∷ rest) (unit_columns p (a + 1) (suc i) k (next a i p.given e))
  where
    place : (a i n : ℕ) → a ≡ n + i → a - n ≡ i
    place a i n e = omega (arith, e)

    next : (a i n : ℕ) → a ≡ n + i → a + 1 ≡ n + suc i
    next a i n e = omega (arith, e)

unit_costs : (p : Problem) (a k : ℕ) → p.given ≤ a → map (cost_of p) (range_with_len a k) ≡ replicate k one_ℚ
unit_costs p a zero e = refl
unit_costs p a (suc k) e =
    ap (λ u. u ∷ map (cost_of p) (range_with_len (a + 1) k)) (cost_of-unit p a e) ∙ ap (λ rest. one_ℚ ∷ rest) (unit_costs p (a + 1) k (omega arith))

all_within : (w a k : ℕ) → a + k ≤ w → All (λ j. j < w) (range_with_len a k)
all_within w a zero e = All-nil (λ j. j < w)
all_within w a (suc k) e = All-cons (λ j. j < w) a (range_with_len (a + 1) k) (omega arith) (all_within w (a + 1) k (omega arith))

row_at-units : (m i k c : ℕ) → c < k → row_at (unit_rows m i k) c ≡ unit_vector m (i + c)
row_at-units m i zero c h = absurd (omega arith)
row_at-units m i (suc k) zero h = ap (unit_vector m) (at i)
  where
    at : (i : ℕ) → i ≡ i + zero
    at i = omega arith
row_at-units m i (suc k) (suc c) h = row_at-units m (suc i) k c (omega arith) ∙ ap (unit_vector m) (at i c)
  where
    at : (i c : ℕ) → suc i + c ≡ i + suc c
    at i c = omega arith

pub row_at-unit : (m c : ℕ) → c < m → row_at (unit_matrix m) c ≡ unit_vector m c
row_at-unit m c h = row_at-units m 0 m c h ∙ ap (unit_vector m) (at c)
  where
    at : (c : ℕ) → 0 + c ≡ c
    at c = omega arith

unit_columns_fit : (m : ℕ) → HasColumns m (unit_matrix m)
unit_columns_fit m = All-from_recursion (λ r. length r ≡ m) (unit_matrix m) (width-unit_rows m 0 m)

combine-units : (m : ℕ) (c : List ℚ) → length c ≡ m → combine m c (unit_matrix m) ≡ c
combine-units m c e =
    same_by_dot _ _ (length-combine m c (unit_matrix m) (unit_columns_fit m) ∙ sym e) (λ w k.
    dot_comm w (combine m c (unit_matrix m)) ∙ sym (transpose m c (unit_matrix m) w (unit_columns_fit m))
    ∙ ap (dot c) (rows_dot-unit m w (k ∙ length-combine m c (unit_matrix m) (unit_columns_fit m))) ∙ dot_comm c w)

pub units_inverse : (m : ℕ) → IsInverseOf m (unit_matrix m) (unit_matrix m)
units_inverse m = record {
  columns = length-unit_rows m 0 m;
  heights = unit_columns_fit m;
  rows = length-unit_rows m 0 m;
  widths = unit_columns_fit m;
  left = λ l h. ap (rows_dot (unit_matrix m)) (row_at-unit m l h) ∙ rows_dot-unit m (unit_vector m l) (length-unit_vector m l);
  spans = λ v e. ap (λ u. combine m u (unit_matrix m)) (rows_dot-unit m v e) ∙ combine-units m v e;
}

unit_positive : (m i : ℕ) → i < m → IsLexPositive (unit_vector m i)
unit_positive zero i h = absurd (omega arith)
unit_positive (suc m) zero h = inl (prove ordered_rationals (zero_ℚ ∷ []) (λ z. lit 0 ≺ lit 1 ⇐ weight 1) refl)
unit_positive (suc m) (suc i) h = inr (refl, unit_positive m i (omega arith))

module _ (p : Problem) where
  columns_are : basic_columns p (unit_basis p) ≡ unit_matrix (height p)
  columns_are = unit_columns p p.given 0 (height p) (at p.given)
    where
      at : (n : ℕ) → n ≡ n + 0
      at n = omega arith

  pub units_basis : IsBasis p (unit_basis p)
  units_basis = record {
    within = all_within (width p) p.given (height p) (omega arith);
    inverse = subst (λ B. IsInverseOf (height p) B (unit_matrix (height p))) (sym columns_are) (units_inverse (height p));
  }

  pub units_point : point p (unit_basis p) ≡ p.right
  units_point = rows_dot-unit (height p) p.right refl

  length-ones : (k : ℕ) → length (replicate k one_ℚ) ≡ k
  length-ones zero = refl
  length-ones (suc k) = ap suc (length-ones k)

  pub units_multipliers : multipliers p (unit_basis p) ≡ replicate (height p) one_ℚ
  units_multipliers =
      ap (λ c. combine (height p) c (unit_matrix (height p))) (unit_costs p p.given (height p) (omega arith))
      ∙ combine-units (height p) (replicate (height p) one_ℚ) (length-ones (height p))

  pub units_standing : IsProblem p → IsStanding p (unit_basis p)
  units_standing h =
      All-by_row_at IsLexPositive (tableau_rows p (unit_basis p)) (λ k l. row k (omega (arith, l, rows_size)))
    where
      rows_size : length (tableau_rows p (unit_basis p)) ≡ height p
      rows_size =
          length-right_beside (point p (unit_basis p)) (unit_matrix (height p)) (length-rows_dot (unit_matrix (height p)) p.right)
          ∙ length-unit_rows (height p) 0 (height p)

      row : (k : ℕ) → k < height p → IsLexPositive (row_at (tableau_rows p (unit_basis p)) k)
      row k l =
          let N = unit_matrix (height p) in
          let e : row_at (tableau_rows p (unit_basis p)) k ≡ entry p.right k ∷ unit_vector (height p) k =
          row_at-beside N p.right k (omega (arith, l, length-unit_rows (height p) 0 (height p)))
          ∙ ap (λ u. dot u p.right ∷ u) (row_at-unit (height p) k l)
          ∙ ap (λ s. s ∷ unit_vector (height p) k) (dot-unit_vector (height p) k p.right (omega arith)) in
          let nonneg : zero_ℚ ≤ℚ entry p.right k = All-get_or (λ x. zero_ℚ ≤ℚ x) p.right k zero_ℚ l h.nonneg in
          subst IsLexPositive (sym e) (⊎_elim (λ u. inr (le_antisymm (entry p.right k) zero_ℚ u nonneg, unit_positive (height p) k l)) (λ u. inl u) (le_or_lt (entry p.right k) zero_ℚ))
