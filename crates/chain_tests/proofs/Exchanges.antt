-- The first two columns of M that come into the place 0.
use Rattle.std.proofs.Common.{◌≡◌, refl, sym, subst, ap, ◌∙◌, ℕ, zero, suc, ◌<◌, false, Some, List, [], ◌∷◌, length, slice_get, arith}
use Rattle.std.specs.Prelude.{slice_index_or}
use Rattle.std.proofs.lemmas.Option.{get_or_from_slice_get}
use Rattle.algebra.proofs.Polynomial.{◌⊗◌, ◌≐◌, lit, minus}
use Rattle.algebra.proofs.Certificate.{prove, scaled, ◌⊞◌, ◌⇐◌}
use Rattle.rational.specs.Rational.{ℚ, zero_ℚ, reciprocal, ◌*ℚ◌}
use Rattle.rational.specs.Order.{same_fields, differ_of_same_fields}
use Rattle.rational.specs.Sums.{entry}
use Rattle.rational.specs.Vectors.{dot, row_at}
use Rattle.rational.proofs.Field.{mul-reciprocal}
use Rattle.rational.proofs.Order.{ordered_rationals}
use Rattle.rational.proofs.Vectors.{dot-scale_left, entry-column, entry-rows_dot}
use Rattle.exact_matrix.specs.Grid as grids
use Rattle.exact_matrix.specs.Grid.{Grid}
use Rattle.elimination_law.proofs.Vectors.{rows_dot-unit}
use Rattle.linear_basis_law.specs.Problem.{IsProblem, width, column_of}
use Rattle.linear_basis_law.specs.Basis.{IsBasis, unit_basis}
use Rattle.linear_basis_law.specs.Exchange.{coordinates, exchanged}
use Rattle.linear_basis_law.proofs.Bases.{column_of-given, length-column_of}
use Rattle.linear_basis_law.proofs.Changes.{exchange_basis, row_place}
use Rattle.linear_basis_law.proofs.Units.{units_basis}
use Rattle.linear_basis.specs.Kept.{Kept, kept, problem, tableau}

row_at_is : (rows : List (List ℚ)) (k : ℕ) → row_at rows k ≡ slice_index_or rows k []
row_at_is [] k = refl
row_at_is (r ∷ rows) zero = refl
row_at_is (r ∷ rows) (suc k) = row_at_is rows k

product_apart : (t y : ℚ) → ¬ (t ≡ zero_ℚ) → ¬ (y ≡ zero_ℚ) → ¬ (reciprocal t *ℚ y ≡ zero_ℚ)
product_apart t y h k e =
    k (prove ordered_rationals (t ∷ y ∷ reciprocal t ∷ []) (λ t y i. y ≐ lit 0 ⇐ scaled (minus y) (t ⊗ i) (lit 1) ⊞ scaled t (i ⊗ y) (lit 0)) refl (mul-reciprocal t h) e)

module _ (m : Grid ℚ) (r : List ℚ) (is_problem : IsProblem (problem m r)) (rows : 0 < length m.rows) where
  some_place : 0 < length r
  some_place = omega (arith, rows, is_problem.rows)

  unit_coordinate : (j : ℕ) (x : ℚ) → j < m.columns → slice_get (grids.row_at m 0) j ≡ Some x → entry (coordinates (problem m r) (unit_basis (problem m r)) j) 0 ≡ x
  unit_coordinate j x h e =
      let p = problem m r in
      ap (λ u. entry u 0) (rows_dot-unit (length r) (column_of p j) (length-column_of p j is_problem) ∙ column_of-given p j h)
      ∙ entry-column j m.rows 0 ∙ ap (λ row. entry row j) (row_at_is m.rows 0) ∙ get_or_from_slice_get (grids.row_at m 0) j x zero_ℚ e

  -- the unit basis
  module _ (k : Kept) (start : k ≡ kept (problem m r) (unit_basis (problem m r))) where
    pub start_basis : IsBasis (problem m r) (tableau k)
    start_basis = subst (λ (k : Kept). IsBasis (problem m r) (tableau k)) (sym start) (units_basis (problem m r))

    pub start_pivot : (j : ℕ) (x : ℚ) → j < m.columns → slice_get (grids.row_at m 0) j ≡ Some x → same_fields x zero_ℚ ≡ false →
        ¬ (entry (coordinates (problem m r) (tableau k) j) 0 ≡ zero_ℚ)
    start_pivot j x h e d f =
        differ_of_same_fields x zero_ℚ d
        (sym (unit_coordinate j x h e) ∙ ap (λ (k : Kept). entry (coordinates (problem m r) (tableau k) j) 0) (sym start) ∙ f)

    -- and the one after column 0 came into the place 0
    module _ (x : ℚ) (columns : 1 < m.columns) (at : slice_get (grids.row_at m 0) 0 ≡ Some x) (apart : same_fields x zero_ℚ ≡ false)
        (now : Kept) (done : now ≡ kept (problem m r) (exchanged (problem m r) (tableau k) 0 0)) where
      within : 0 < width (problem m r)
      within = omega (arith, columns)

      pub next_basis : IsBasis (problem m r) (tableau now)
      next_basis =
          subst (λ (k : Kept). IsBasis (problem m r) (tableau k)) (sym done)
          (exchange_basis (problem m r) (tableau k) is_problem start_basis 0 0 within some_place (start_pivot 0 x (omega (arith, columns)) at apart))

      next_coordinate : (j : ℕ) → entry (coordinates (problem m r) (exchanged (problem m r) (tableau k) 0 0) j) 0
          ≡ reciprocal (entry (coordinates (problem m r) (tableau k) 0) 0) *ℚ entry (coordinates (problem m r) (tableau k) j) 0
      next_coordinate j =
          let p = problem m r in let N = (tableau k).inverse in let t = entry (coordinates p (tableau k) 0) 0 in
          entry-rows_dot (exchanged p (tableau k) 0 0).inverse (column_of p j) 0
          ∙ ap (λ row. dot row (column_of p j)) (row_place p (tableau k) is_problem start_basis 0 0 within some_place (start_pivot 0 x (omega (arith, columns)) at apart))
          ∙ dot-scale_left (reciprocal t) (row_at N 0) (column_of p j) ∙ ap (λ s. reciprocal t *ℚ s) (sym (entry-rows_dot N (column_of p j) 0))

      pub next_pivot : (y : ℚ) → slice_get (grids.row_at m 0) 1 ≡ Some y → same_fields y zero_ℚ ≡ false → ¬ (entry (coordinates (problem m r) (tableau now) 1) 0 ≡ zero_ℚ)
      next_pivot y e d f =
          product_apart (entry (coordinates (problem m r) (tableau k) 0) 0) (entry (coordinates (problem m r) (tableau k) 1) 0)
          (start_pivot 0 x (omega (arith, columns)) at apart) (start_pivot 1 y columns e d)
          (sym (next_coordinate 1) ∙ ap (λ (k : Kept). entry (coordinates (problem m r) (tableau k) 1) 0) (sym done) ∙ f)
