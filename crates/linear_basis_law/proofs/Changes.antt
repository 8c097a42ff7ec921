-- An exchange makes a basis, by the pivot formulas.
use Rattle.std.proofs.Common.{◌≡◌, ◌≢◌, refl, sym, subst, ◌∙◌, ap, ℕ, ◌<◌, List, [], ◌∷◌, length, arith}
use Rattle.std.specs.Prelude.{slice_set}
use Rattle.std.proofs.lemmas.List.Elements.{All-set}
use Rattle.algebra.proofs.Polynomial.{minus, ◌⊕◌, ◌⊗◌, ◌≐◌, ◌⊝◌, lit}
use Rattle.algebra.proofs.Solver.{ring}
use Rattle.algebra.proofs.Certificate.{prove, scaled, ◌⇐◌}
use Rattle.rational.specs.Rational.{ℚ, zero_ℚ, one_ℚ, ◌+ℚ◌, ◌-ℚ◌, ◌*ℚ◌, ◌/ℚ◌, neg_ℚ, reciprocal}
use Rattle.rational.specs.Sums.{entry}
use Rattle.rational.specs.Vectors.{dot, add_each, scale, unit_vector, rows_dot, row_at}
use Rattle.rational.proofs.Field.{rationals, mul-reciprocal}
use Rattle.rational.proofs.Order.{ordered_rationals}
use Rattle.rational.proofs.Vectors.{length-rows_dot, length-unit_vector, length-scale, dot-scale_left, dot-add_scale_left, entry-rows_dot, entry-add_each, entry-scale, entry-unit_vector_same, entry-unit_vector_other}
use Rattle.linear_basis_law.specs.Problem.{Problem, IsProblem, height, width, column_of, cost_of}
use Rattle.linear_basis_law.specs.Basis.{Tableau, IsBasis, IsInverseOf, basic_columns, basic_costs, point, multipliers, price, level, tableau_rows}
use Rattle.linear_basis_law.specs.Exchange.{coordinates, quotient_row, shift, add_multiples, exchanged}
use Rattle.linear_basis_law.proofs.Places.{map-slice_set, row_at-add_multiples, beside-add_multiples, row_at-beside}
use Rattle.linear_basis_law.proofs.Pivots.{pivot_inverts, new_multipliers, dot-row, row_size, d_rows, entry-d}
use Rattle.linear_basis_law.proofs.Bases.{length-column_of, multipliers_size, costs_size}

-- u + (1 - t) u / t is u / t
pub divided_place : (u : List ℚ) (t i : ℚ) → t *ℚ i ≡ one_ℚ → add_each u (scale (one_ℚ +ℚ neg_ℚ one_ℚ *ℚ t) (scale i u)) ≡ scale i u
divided_place [] t i e = refl
divided_place (x ∷ u) t i e =
    ap (λ s. s ∷ add_each u (scale (one_ℚ +ℚ neg_ℚ one_ℚ *ℚ t) (scale i u)))
    (prove ordered_rationals (x ∷ t ∷ i ∷ []) (λ x t i. x ⊕ (lit 1 ⊕ minus (lit 1) ⊗ t) ⊗ (i ⊗ x) ≐ i ⊗ x ⇐ scaled (minus x) (t ⊗ i) (lit 1)) refl e)
    ∙ ap (λ v. (i *ℚ x) ∷ v) (divided_place u t i e)

module _ (p : Problem) (b : Tableau) (problem : IsProblem p) (h : IsBasis p b) (j l : ℕ) (within : j < width p) (place : l < height p)
    (nonzero : ¬ (entry (coordinates p b j) l ≡ zero_ℚ)) where
  abbrev m : ℕ
  m = height p

  abbrev B : List (List ℚ)
  B = basic_columns p b

  abbrev N : List (List ℚ)
  N = b.inverse

  abbrev a : List ℚ
  a = column_of p j

  abbrev t : List ℚ
  t = coordinates p b j

  abbrev c : Tableau
  c = exchanged p b j l

  abbrev row : List ℚ
  row = quotient_row t N l

  a_size : length a ≡ m
  a_size = length-column_of p j problem

  new_columns : basic_columns p c ≡ slice_set B l a
  new_columns = map-slice_set (column_of p) b.columns l j

  new_costs : basic_costs p c ≡ slice_set (basic_costs p b) l (cost_of p j)
  new_costs = map-slice_set (cost_of p) b.columns l j

  -- a basis again
  pub exchange_basis : IsBasis p c
  exchange_basis = record {
    within = All-set (λ j. j < width p) b.columns l j within h.within;
    inverse = subst (λ C. IsInverseOf m C c.inverse) (sym new_columns) (pivot_inverts m B N h.inverse a a_size l place nonzero);
  }

  pub factor_place : entry (shift m t l) l ≡ one_ℚ +ℚ neg_ℚ one_ℚ *ℚ entry t l
  factor_place = entry-d m B N h.inverse a a_size l place nonzero l ∙ ap (λ s. s +ℚ neg_ℚ one_ℚ *ℚ entry t l) (entry-unit_vector_same m l place)

  pub factor_other : (k : ℕ) → k ≢ l → entry (shift m t l) k ≡ neg_ℚ (entry t k)
  factor_other k n =
      entry-d m B N h.inverse a a_size l place nonzero k ∙ ap (λ s. s +ℚ neg_ℚ one_ℚ *ℚ entry t k) (entry-unit_vector_other m l k (λ e. n (sym e)))
      ∙ ring rationals (entry t k ∷ []) (λ t. lit 0 ⊕ minus (lit 1) ⊗ t ≐ minus t) refl

  shift_rows : length (shift m t l) ≡ length N
  shift_rows = d_rows m B N h.inverse a a_size l place nonzero

  -- the row at l is divided, and from each other one a multiple of it is taken off
  pub row_place : row_at c.inverse l ≡ row
  row_place =
      row_at-add_multiples (shift m t l) row N l shift_rows (omega (arith, place, h.inverse.rows))
      ∙ ap (λ s. add_each (row_at N l) (scale s row)) factor_place ∙ divided_place (row_at N l) (entry t l) (reciprocal (entry t l)) (mul-reciprocal (entry t l) nonzero)

  pub row_other : (k : ℕ) → k < m → k ≢ l → row_at c.inverse k ≡ add_each (row_at N k) (scale (neg_ℚ (entry t k)) row)
  row_other k i n =
      row_at-add_multiples (shift m t l) row N k shift_rows (omega (arith, i, h.inverse.rows))
      ∙ ap (λ s. add_each (row_at N k) (scale s row)) (factor_other k n)

  -- the rows with their values alike
  abbrev full : List ℚ
  full = quotient_row t (tableau_rows p b) l

  pub full_is : full ≡ dot row p.right ∷ row
  full_is =
      ap (scale (reciprocal (entry t l))) (row_at-beside N p.right l (omega (arith, place, h.inverse.rows)))
      ∙ ap (λ s. s ∷ row) (sym (dot-scale_left (reciprocal (entry t l)) (row_at N l) p.right))

  pub rows_are : tableau_rows p c ≡ add_multiples (shift m t l) full (tableau_rows p b)
  rows_are =
      beside-add_multiples m (shift m t l) row N p.right (row_size m B N h.inverse a a_size l place nonzero) h.inverse.widths
      ∙ ap (λ u. add_multiples (shift m t l) u (tableau_rows p b)) (sym full_is)

  pub point_place : entry (point p c) l ≡ entry (point p b) l /ℚ entry t l
  point_place =
      entry-rows_dot c.inverse p.right l ∙ ap (λ u. dot u p.right) row_place ∙ dot-row m B N h.inverse a a_size l place nonzero p.right
      ∙ rationals.mul_comm (reciprocal (entry t l)) (entry (point p b) l)

  pub point_other : (k : ℕ) → k < m → k ≢ l → entry (point p c) k ≡ entry (point p b) k -ℚ entry t k *ℚ entry (point p c) l
  point_other k i n =
      entry-rows_dot c.inverse p.right k ∙ ap (λ u. dot u p.right) (row_other k i n)
      ∙ dot-add_scale_left (row_at N k) (neg_ℚ (entry t k)) row p.right
      (Rattle.rational.proofs.Vectors.length-row_at m N k h.inverse.widths (omega (arith, i, h.inverse.rows)) ∙ sym (row_size m B N h.inverse a a_size l place nonzero))
      ∙ ap (λ s. s +ℚ neg_ℚ (entry t k) *ℚ dot row p.right) (sym (entry-rows_dot N p.right k))
      ∙ ap (λ s. entry (point p b) k +ℚ neg_ℚ (entry t k) *ℚ s) (sym (entry-rows_dot c.inverse p.right l ∙ ap (λ u. dot u p.right) row_place))
      ∙ ring rationals (entry (point p b) k ∷ entry t k ∷ entry (point p c) l ∷ []) (λ x t q. x ⊕ minus t ⊗ q ≐ x ⊝ t ⊗ q) refl

  -- the multipliers and the level move by the price times the divided row
  pub multipliers_move : multipliers p c ≡ add_each (multipliers p b) (scale (price p b j) row)
  multipliers_move =
      ap (λ s. Rattle.rational.specs.Vectors.combine m s c.inverse) new_costs
      ∙ new_multipliers m B N h.inverse a a_size l place nonzero (basic_costs p b) (cost_of p j) (costs_size p b h)

  pub level_moves : level p c ≡ add_each (level p b) (scale (price p b j) full)
  level_moves =
      ap (λ y. dot y p.right ∷ y) multipliers_move
      ∙ ap (λ s. s ∷ add_each (multipliers p b) (scale (price p b j) row))
      (dot-add_scale_left (multipliers p b) (price p b j) row p.right (multipliers_size p b h ∙ sym (row_size m B N h.inverse a a_size l place nonzero)))
      ∙ ap (λ u. add_each (level p b) (scale (price p b j) u)) (sym full_is)
