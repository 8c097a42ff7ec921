-- What the small system of a support says.
use Rattle.std.proofs.Common.{◌≡◌, refl, sym, ◌∙◌, ap, subst, ℕ, ◌+◌, ◌<◌, List, [], ◌∷◌, ◌++◌, length, map, take, drop, arith, length-append}
use Rattle.std.specs.List.{All}
use Rattle.std.proofs.lemmas.List.{take-append-drop, length-map}
use Rattle.std.proofs.lemmas.List.Elements.{All-head, All-tail, All-cons, All-nil, All-append}
use Rattle.std.proofs.Math.Seq.{take-append_seam, drop-append_seam}
use Rattle.algebra.proofs.Polynomial.{◌⊕◌, ◌≐◌}
use Rattle.algebra.proofs.Certificate.{prove, given, ◌⇐◌}
use Rattle.rational.specs.Rational.{ℚ, zero_ℚ, ◌+ℚ◌}
use Rattle.rational.specs.Sums.{entry}
use Rattle.rational.specs.Vectors.{dot, add_each, zeros, unit_vector, HasColumns, rows_dot, combine, column, row_at, pick, put_at, IsSymmetric}
use Rattle.rational.proofs.Field.{rationals}
use Rattle.rational.proofs.Order.{ordered_rationals}
use Rattle.rational.proofs.Vectors.{length-zeros, length-add_each, length-rows_dot, length-combine, length-row_at, length-column, length-unit_vector, dot_comm, dot-zeros_left, dot-zeros_right, dot-append, dot-add_right, dot-unit_vector, entry-add_each, entry-rows_dot, entry-combine, rows_dot-append, transpose}
use Rattle.rational.proofs.Forms.{form_comm}
use Rattle.rational.proofs.Supports.{dot-pick, length-pick}
use Rattle.elimination_law.proofs.Vectors.{length-front}
use Rattle.equational_law.specs.Form.{Form}
use Rattle.equational_law.specs.Solutions.{IsForm}
use Rattle.face_descent_law.specs.Small.{place_row, equation_row, small_rows, small_width}

-- two lists of two parts are the same where the parts are
pub first_part : (a b c d : List ℚ) → length a ≡ length c → a ++ b ≡ c ++ d → a ≡ c
first_part a b c d l e = sym (take-append_seam a b) ∙ ap (take (length a)) e ∙ ap (λ k. take k (c ++ d)) l ∙ take-append_seam c d

pub last_part : (a b c d : List ℚ) → length a ≡ length c → a ++ b ≡ c ++ d → b ≡ d
last_part a b c d l e = sym (drop-append_seam a b) ∙ ap (drop (length a)) e ∙ ap (λ k. drop k (c ++ d)) l ∙ drop-append_seam c d

-- the equations say M d
equations_give : (n m : ℕ) (S : List ℕ) (e l : List ℚ) (M : List (List ℚ)) → HasColumns n M → length e ≡ length S → rows_dot (map (equation_row m S) M) (e ++ l) ≡ rows_dot M (put_at n S e)
equations_give n m S e l [] h k = refl
equations_give n m S e l (row ∷ M) h k =
    let d = put_at n S e in
    let a : dot (equation_row m S row) (e ++ l) ≡ dot row d =
    dot-append (pick S row) (zeros m) e l (length-pick S row ∙ sym k)
    ∙ ap (λ t. t +ℚ dot (zeros m) l) (dot-pick n S row e (All-head (λ r. length r ≡ n) row M h))
    ∙ ap (λ t. dot row d +ℚ t) (dot-zeros_left m l) ∙ rationals.add_zero (dot row d) in
    ap (λ x. x ∷ rows_dot (map (equation_row m S) M) (e ++ l)) a
    ∙ ap (λ v. dot row d ∷ v) (equations_give n m S e l M (All-tail (λ r. length r ≡ n) row M h) k)

module _ (n : ℕ) (f : Form) (is : IsForm n f) where
  abbrev Q : List (List ℚ)
  Q = f.quadratic

  abbrev M : List (List ℚ)
  M = f.matrix

  -- Q d + l M
  abbrev pub sum_of : List ℚ → List ℚ → List ℚ
  sum_of d l = add_each (rows_dot Q d) (combine n l M)

  pub length-sum_parts : (d l : List ℚ) → length (rows_dot Q d) ≡ length (combine n l M)
  length-sum_parts d l = length-rows_dot Q d ∙ is.pairs_height ∙ sym (length-combine n l M is.columns)

  pub length-sum : (d l : List ℚ) → length (sum_of d l) ≡ n
  length-sum d l = length-add_each (rows_dot Q d) (combine n l M) (length-sum_parts d l) ∙ length-rows_dot Q d ∙ is.pairs_height

  place_gives : (S : List ℕ) (e l : List ℚ) (i : ℕ) → length e ≡ length S → i < n → dot (place_row f S i) (e ++ l) ≡ entry (sum_of (put_at n S e) l) i
  place_gives S e l i h b =
      let d = put_at n S e in
      dot-append (pick S (row_at Q i)) (column i M) e l (length-pick S (row_at Q i) ∙ sym h)
      ∙ ap (λ t. t +ℚ dot (column i M) l) (dot-pick n S (row_at Q i) e (length-row_at n Q i is.pairs_width (subst (λ (k : ℕ). i < k) (sym is.pairs_height) b)) ∙ sym (entry-rows_dot Q d i))
      ∙ ap (λ t. entry (rows_dot Q d) i +ℚ t) (dot_comm (column i M) l ∙ sym (entry-combine n l M i is.columns))
      ∙ sym (entry-add_each (rows_dot Q d) (combine n l M) i (length-sum_parts d l))

  places_give : (S T : List ℕ) (e l : List ℚ) → length e ≡ length S → All (λ k. k < n) T → rows_dot (map (place_row f S) T) (e ++ l) ≡ pick T (sum_of (put_at n S e) l)
  places_give S [] e l h b = refl
  places_give S (i ∷ T) e l h b =
      ap (λ x. x ∷ rows_dot (map (place_row f S) T) (e ++ l)) (place_gives S e l i h (All-head (λ k. k < n) i T b))
      ∙ ap (λ v. entry (sum_of (put_at n S e) l) i ∷ v) (places_give S T e l h (All-tail (λ k. k < n) i T b))

  pub small_gives : (S : List ℕ) (e l : List ℚ) → All (λ k. k < n) S → length e ≡ length S → rows_dot (small_rows f S) (e ++ l) ≡ pick S (sum_of (put_at n S e) l) ++ rows_dot M (put_at n S e)
  small_gives S e l b h =
      rows_dot-append (map (place_row f S) S) (map (equation_row (length M) S) M) (e ++ l)
      ∙ ap (λ v. v ++ rows_dot (map (equation_row (length M) S) M) (e ++ l)) (places_give S S e l h b)
      ∙ ap (λ v. pick S (sum_of (put_at n S e) l) ++ v) (equations_give n (length M) S e l M is.columns h)

  module _ (S : List ℕ) (b : All (λ k. k < n) S) (e l a : List ℚ) (h : length e ≡ length S) (k : length a ≡ length S) (gives : rows_dot (small_rows f S) (e ++ l) ≡ a ++ zeros (length M)) where
    abbrev d : List ℚ
    d = put_at n S e

    pub at_places : pick S (sum_of d l) ≡ a
    at_places = first_part (pick S (sum_of d l)) (rows_dot M d) a (zeros (length M)) (length-pick S (sum_of d l) ∙ sym k) (sym (small_gives S e l b h) ∙ gives)

    pub at_equations : rows_dot M d ≡ zeros (length M)
    at_equations = last_part (pick S (sum_of d l)) (rows_dot M d) a (zeros (length M)) (length-pick S (sum_of d l) ∙ sym k) (sym (small_gives S e l b h) ∙ gives)

    -- l M gives 0 of d
    pub multipliers_flat : (y : List ℚ) → dot d (combine n y M) ≡ zero_ℚ
    multipliers_flat y = dot_comm d (combine n y M) ∙ sym (transpose n y M d is.columns) ∙ ap (dot y) at_equations ∙ dot-zeros_right y (length M)

    pub form_is : dot d (rows_dot Q d) ≡ dot a e
    form_is =
        sym (rationals.add_zero (dot d (rows_dot Q d))) ∙ ap (λ t. dot d (rows_dot Q d) +ℚ t) (sym (multipliers_flat l))
        ∙ sym (dot-add_right d (rows_dot Q d) (combine n l M) (length-sum_parts d l))
        ∙ dot_comm d (sum_of d l) ∙ sym (dot-pick n S (sum_of d l) e (length-sum d l)) ∙ ap (λ v. dot v e) at_places

  -- ---- symmetry

  both_of : (S : List ℕ) → All (λ k. k < n) S → (e l u v : List ℚ) → length e ≡ length S → length u ≡ length S
      → dot (e ++ l) (rows_dot (small_rows f S) (u ++ v)) ≡ dot (put_at n S e) (rows_dot Q (put_at n S u)) +ℚ dot v (rows_dot M (put_at n S e)) +ℚ dot l (rows_dot M (put_at n S u))
  both_of S b e l u v h k =
      let d = put_at n S e in
      let c = put_at n S u in
      ap (dot (e ++ l)) (small_gives S u v b k)
      ∙ dot-append e l (pick S (sum_of c v)) (rows_dot M c) (h ∙ sym (length-pick S (sum_of c v)))
      ∙ ap (λ t. t +ℚ dot l (rows_dot M c))
      (dot_comm e (pick S (sum_of c v)) ∙ dot-pick n S (sum_of c v) e (length-sum c v) ∙ dot_comm (sum_of c v) d
      ∙ dot-add_right d (rows_dot Q c) (combine n v M) (length-sum_parts c v)
      ∙ ap (λ t. dot d (rows_dot Q c) +ℚ t) (dot_comm d (combine n v M) ∙ sym (transpose n v M d is.columns)))

  swapped : (q p a b : ℚ) → q ≡ p → q +ℚ a +ℚ b ≡ p +ℚ b +ℚ a
  swapped q p a b e = prove ordered_rationals (q ∷ p ∷ a ∷ b ∷ []) (λ q p a b. q ⊕ a ⊕ b ≐ p ⊕ b ⊕ a ⇐ given (q ≐ p)) refl e

  pub both_ways_parts : IsSymmetric n Q → (S : List ℕ) → All (λ k. k < n) S → (e l u v : List ℚ) → length e ≡ length S → length u ≡ length S
      → dot (e ++ l) (rows_dot (small_rows f S) (u ++ v)) ≡ dot (u ++ v) (rows_dot (small_rows f S) (e ++ l))
  both_ways_parts s S b e l u v h k =
      both_of S b e l u v h k ∙ swapped _ _ _ _ (form_comm n Q s (put_at n S e) (put_at n S u)) ∙ sym (both_of S b u v e l k h)

  pub both_ways : IsSymmetric n Q → (S : List ℕ) → All (λ k. k < n) S → (x y : List ℚ) → length x ≡ small_width f S → length y ≡ small_width f S
      → dot x (rows_dot (small_rows f S) y) ≡ dot y (rows_dot (small_rows f S) x)
  both_ways s S b x y h k =
      let p = take-append-drop (length S) x in
      let q = take-append-drop (length S) y in
      let r = both_ways_parts s S b (take (length S) x) (drop (length S) x) (take (length S) y) (drop (length S) y) (length-front (length S) x (omega arith)) (length-front (length S) y (omega arith)) in
      subst (λ t. dot t (rows_dot (small_rows f S) y) ≡ dot y (rows_dot (small_rows f S) t)) p
      (subst (λ t. dot (take (length S) x ++ drop (length S) x) (rows_dot (small_rows f S) t) ≡ dot t (rows_dot (small_rows f S) (take (length S) x ++ drop (length S) x))) q r)

  -- ---- shape

  place_widths : (S T : List ℕ) → HasColumns (small_width f S) (map (place_row f S) T)
  place_widths S [] = All-nil (λ r. length r ≡ small_width f S)
  place_widths S (i ∷ T) =
      All-cons (λ r. length r ≡ small_width f S) (place_row f S i) (map (place_row f S) T)
      (length-append (pick S (row_at Q i)) (column i M) ∙ ap (λ k. k + length (column i M)) (length-pick S (row_at Q i)) ∙ ap (λ k. length S + k) (length-column i M))
      (place_widths S T)

  equation_widths : (m : ℕ) (S : List ℕ) (N : List (List ℚ)) → HasColumns (length S + m) (map (equation_row m S) N)
  equation_widths m S [] = All-nil (λ r. length r ≡ length S + m)
  equation_widths m S (row ∷ N) =
      All-cons (λ r. length r ≡ length S + m) (equation_row m S row) (map (equation_row m S) N)
      (length-append (pick S row) (zeros m) ∙ ap (λ k. k + length (zeros m)) (length-pick S row) ∙ ap (λ k. length S + k) (length-zeros m))
      (equation_widths m S N)

  pub small_columns : (S : List ℕ) → HasColumns (small_width f S) (small_rows f S)
  small_columns S = All-append (λ r. length r ≡ small_width f S) (map (place_row f S) S) (map (equation_row (length M) S) M) (place_widths S S) (equation_widths (length M) S M)

  pub small_height : (S : List ℕ) → length (small_rows f S) ≡ small_width f S
  small_height S =
      length-append (map (place_row f S) S) (map (equation_row (length M) S) M)
      ∙ ap (λ k. k + length (map (equation_row (length M) S) M)) (length-map S (place_row f S)) ∙ ap (λ k. length S + k) (length-map M (equation_row (length M) S))

  entry_by_units : (S : List ℕ) (i j : ℕ) → i < small_width f S → j < small_width f S
      → dot (unit_vector (small_width f S) i) (rows_dot (small_rows f S) (unit_vector (small_width f S) j)) ≡ entry (row_at (small_rows f S) i) j
  entry_by_units S i j a b =
      let K = small_rows f S in
      let w = small_width f S in
      let l = length-rows_dot K (unit_vector w j) in
      let m = small_height S in
      let r = length-row_at w K i (small_columns S) (omega arith) in
      dot-unit_vector w i (rows_dot K (unit_vector w j)) (omega arith) ∙ entry-rows_dot K (unit_vector w j) i
      ∙ dot_comm (row_at K i) (unit_vector w j) ∙ dot-unit_vector w j (row_at K i) (omega arith)

  pub small_symmetric : IsSymmetric n Q → (S : List ℕ) → All (λ k. k < n) S → IsSymmetric (small_width f S) (small_rows f S)
  small_symmetric s S b = record {
    rows = small_height S;
    columns = small_columns S;
    same = λ i j p q. sym (entry_by_units S i j p q)
        ∙ both_ways s S b (unit_vector (small_width f S) i) (unit_vector (small_width f S) j) (length-unit_vector (small_width f S) i) (length-unit_vector (small_width f S) j)
        ∙ entry_by_units S j i q p;
  }
