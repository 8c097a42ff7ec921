-- The parts of the form fit, and its quadratic matrix is symmetric, and semidefinite where the program's is.
use Rattle.std.specs.Prelude.{◌≡◌, ℕ, ◌+◌, ◌<◌, List, [], ◌∷◌, map, length, replicate, Bool, true, false}
use Rattle.std.specs.List.{All}
use Rattle.std.proofs.Common.{arith, sym, subst, ◌∙◌, ap, refl, cond, inl, inr, length-append}
use Rattle.std.proofs.lemmas.List.{length-map}
use Rattle.std.proofs.lemmas.List.Elements.{All-nil, All-cons, All-head, All-tail, All-append, All-replicate}
use Rattle.algebra.proofs.Polynomial.{◌≼◌, lit, minus}
use Rattle.algebra.proofs.Certificate.{prove, given, ◌⇐◌}
use Rattle.rational.specs.Rational.{ℚ, zero_ℚ, neg_ℚ}
use Rattle.rational.specs.Order.{◌≤ℚ◌}
use Rattle.rational.specs.Sums.{entry}
use Rattle.rational.specs.Vectors.{dot, zeros, unit_vector, rows_dot, row_at, HasColumns, IsSymmetric, IsSemidefinite}
use Rattle.rational.proofs.Order.{ordered_rationals, lt_le, le_or_lt}
use Rattle.rational.proofs.Vectors.{dot_comm, dot-unit_vector, length-zeros, length-rows_dot, length-row_at, entry-rows_dot}
use Rattle.rational.proofs.Forms.{form_comm}
use Rattle.rational.specs.Tests.{is_negative}
use Rattle.program_law.proofs.Numbers.{negative_below, below_negative}
use Rattle.program_law.specs.Region.{Region}
use Rattle.program_law.specs.Program.{Program, IsProgram, sides}
use Rattle.equational_law.specs.Standing.{Standing, Above, Below, Free, standing, shift, parts, change, spread, spread_rows_at, spread_rows}
use Rattle.equational_law.specs.Equations.{Equation, row_equations, bound_equations, row_slacks, matrix_row, right_of}
use Rattle.equational_law.specs.Form.{form_of, equations, slacks, width, padded}
use Rattle.equational_law.specs.Solutions.{IsNotNegative, IsForm}
use Rattle.equational_law.proofs.Adjoint.{length-spread, length-change}
use Rattle.equational_law.proofs.Forms.{products, pairing, symmetric_pairs}
use Rattle.equational_law.proofs.Matrix.{FitsIn, matrix_columns, rows_fit, bounds_fit}
use Rattle.equational_law.proofs.Solving.{length-cost}

-- ---- the right sides

right_nonneg : (e : Equation) → IsNotNegative (right_of e)
right_nonneg e = by (is_negative e.right) refl
  where
    by : (t : Bool) → is_negative e.right ≡ t → IsNotNegative (cond t (neg_ℚ e.right) e.right)
    by true h = prove ordered_rationals (e.right ∷ []) (λ x. lit 0 ≼ minus x ⇐ given (x ≼ lit 0)) refl (lt_le e.right zero_ℚ (negative_below e.right h))
    by false h =
        elim (le_or_lt zero_ℚ e.right) [
          | inl k ↦ k
          | inr k ↦ absurd (let bad : true ≡ false = sym (below_negative e.right k) ∙ h in cc)
        ]

rights_nonneg : (es : List Equation) → All IsNotNegative (map right_of es)
rights_nonneg [] = All-nil IsNotNegative
rights_nonneg (e ∷ es) = All-cons IsNotNegative (right_of e) (map right_of es) (right_nonneg e) (rights_nonneg es)

-- ---- the quadratic matrix

spread_row_widths : (s : Standing) (n : ℕ) (row : List ℚ) → length row ≡ n → HasColumns n (spread_rows_at s row)
spread_row_widths (Above l) n row h = All-cons (λ r. length r ≡ n) row [] h (All-nil (λ r. length r ≡ n))
spread_row_widths (Below u) n row h = All-cons (λ r. length r ≡ n) (map neg_ℚ row) [] (length-map row neg_ℚ ∙ h) (All-nil (λ r. length r ≡ n))
spread_row_widths Free n row h =
    All-cons (λ r. length r ≡ n) row (map neg_ℚ row ∷ []) h (All-cons (λ r. length r ≡ n) (map neg_ℚ row) [] (length-map row neg_ℚ ∙ h) (All-nil (λ r. length r ≡ n)))

spread_rows_widths : (region : Region) (n : ℕ) (rows : List (List ℚ)) → HasColumns n rows → HasColumns n (spread_rows region rows)
spread_rows_widths region n [] h = All-nil (λ r. length r ≡ n)
spread_rows_widths [] n (row ∷ rows) h = All-nil (λ r. length r ≡ n)
spread_rows_widths (b ∷ bs) n (row ∷ rows) h =
    All-append (λ r. length r ≡ n) (spread_rows_at (standing b) row) (spread_rows bs rows)
    (spread_row_widths (standing b) n row (All-head (λ r. length r ≡ n) row rows h)) (spread_rows_widths bs n rows (All-tail (λ r. length r ≡ n) row rows h))

spread_widths : (region : Region) (rows : List (List ℚ)) → HasColumns (parts region) (map (spread region) rows)
spread_widths region [] = All-nil (λ r. length r ≡ parts region)
spread_widths region (row ∷ rows) = All-cons (λ r. length r ≡ parts region) (spread region row) (map (spread region) rows) (length-spread region row) (spread_widths region rows)

padded_widths : (n m : ℕ) (rows : List (List ℚ)) → HasColumns n rows → HasColumns (n + m) (map (padded m) rows)
padded_widths n m [] h = All-nil (λ r. length r ≡ n + m)
padded_widths n m (row ∷ rows) h =
    All-cons (λ r. length r ≡ n + m) (padded m row) (map (padded m) rows)
    (let a = length-append row (zeros m) in let b = length-zeros m in let c = All-head (λ r. length r ≡ n) row rows h in omega arith)
    (padded_widths n m rows (All-tail (λ r. length r ≡ n) row rows h))

quadratic_width : (p : Program) (region : Region) → HasColumns (width p region) (form_of p region).quadratic
quadratic_width p region =
    let m = slacks p region in
    let P : List ℚ → Type 0 = λ r. length r ≡ width p region in
    All-append P (map (padded m) (spread_rows region (map (spread region) p.pairs))) (replicate m (zeros (width p region)))
    (padded_widths (parts region) m (spread_rows region (map (spread region) p.pairs)) (spread_rows_widths region (parts region) (map (spread region) p.pairs) (spread_widths region p.pairs)))
    (All-replicate P m (zeros (width p region)) (length-zeros (width p region)))

quadratic_height : (p : Program) (region : Region) → length p.pairs ≡ length region → length (form_of p region).quadratic ≡ width p region
quadratic_height p region h =
    let g = rows_dot p.pairs (change region []) in
    sym (length-rows_dot (form_of p region).quadratic []) ∙ ap length (products p region [] h) ∙ length-append (spread region g) (zeros (slacks p region))
    ∙ ap (λ k. k + length (zeros (slacks p region))) (length-spread region g) ∙ ap (λ k. parts region + k) (length-zeros (slacks p region))

pub shape : (p : Program) (region : Region) → IsProgram p → length region ≡ length p.columns → IsForm (width p region) (form_of p region)
shape p region is e =
    let m = slacks p region in
    let P = FitsIn (parts region) m in
    record {
      columns = matrix_columns (parts region) m (equations p region)
          (All-append P (row_equations region (shift region) 0 (sides p) p.entries) (bound_equations region (row_slacks (sides p)) 0 region)
          (rows_fit region (shift region) 0 (sides p) p.entries m (omega arith)) (bounds_fit region (row_slacks (sides p)) 0 region m (omega arith)));
      right = length-map (equations p region) right_of ∙ sym (length-map (equations p region) (matrix_row m));
      not_negative = rights_nonneg (equations p region);
      pairs_height = quadratic_height p region (is.pairs_height ∙ sym e);
      pairs_width = quadratic_width p region;
      cost = length-cost p region;
    }

-- ---- symmetric and semidefinite

entry_is : (n : ℕ) (q : List (List ℚ)) (i j : ℕ) → HasColumns n q → length q ≡ n → i < n → entry (row_at q i) j ≡ dot (unit_vector n i) (rows_dot q (unit_vector n j))
entry_is n q i j h k l =
    let r = length-row_at n q i h (subst (λ m. i < m) (sym k) l) in
    let s = length-rows_dot q (unit_vector n j) in
    sym (dot-unit_vector n j (row_at q i) (omega arith)) ∙ dot_comm (unit_vector n j) (row_at q i) ∙ sym (entry-rows_dot q (unit_vector n j) i)
    ∙ sym (dot-unit_vector n i (rows_dot q (unit_vector n j)) (omega arith))

pub symmetric : (p : Program) (region : Region) → IsProgram p → length region ≡ length p.columns → IsSymmetric (width p region) (form_of p region).quadratic
symmetric p region is e =
    let n = width p region in
    let q = (form_of p region).quadratic in
    let long : length p.pairs ≡ length region = is.pairs_height ∙ sym e in
    let rows = quadratic_height p region long in
    let columns = quadratic_width p region in
    record {
      rows = rows;
      columns = columns;
      same = λ i j k l.
          let u = unit_vector n i in
          let v = unit_vector n j in
          entry_is n q i j columns rows k ∙ pairing p region u v long
          ∙ form_comm (length p.columns) p.pairs (symmetric_pairs p is) (change region u) (change region v)
          ∙ sym (pairing p region v u long) ∙ sym (entry_is n q j i columns rows l);
    }

pub semidefinite : (p : Program) (region : Region) → IsProgram p → length region ≡ length p.columns → IsSemidefinite (length p.columns) p.pairs
    → IsSemidefinite (width p region) (form_of p region).quadratic
semidefinite p region is e d =
    record {
      symmetric = symmetric p region is e;
      nonneg = λ v h. subst (λ x. zero_ℚ ≤ℚ x) (sym (pairing p region v v (is.pairs_height ∙ sym e))) (d.nonneg (change region v) (length-change region v ∙ e));
    }
