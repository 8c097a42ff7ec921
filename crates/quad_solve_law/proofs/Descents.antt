-- The price problem at a point: its shape, and the directions of its solutions.
use Rattle.std.proofs.Common.{◌≡◌, refl, sym, ◌∙◌, ap, subst, ℕ, zero, suc, ◌+◌, ◌≤◌, ⊎_elim, List, [], ◌∷◌, ◌++◌, length, map, arith}
use Rattle.std.specs.Prelude.{take, drop, All}
use Rattle.std.proofs.lemmas.List.{length-append}
use Rattle.std.proofs.lemmas.List.Elements.{All-nil, All-cons, All-append, All-take, All-head, All-tail}
use Rattle.algebra.proofs.Polynomial.{minus, ◌⊕◌, ◌≼◌, ◌≐◌, lit}
use Rattle.algebra.proofs.Certificate.{prove, given, scaled, ◌⊞◌, ◌⇐◌}
use Rattle.algebra.proofs.Solver.{ring}
use Rattle.rational.specs.Rational.{ℚ, zero_ℚ, one_ℚ, neg_ℚ, ◌+ℚ◌}
use Rattle.rational.specs.Order.{◌≤ℚ◌}
use Rattle.rational.specs.Sums.{entry}
use Rattle.rational.specs.Vectors.{dot, zeros, put_at, rows_dot, HasColumns}
use Rattle.rational.proofs.Field.{rationals}
use Rattle.rational.proofs.Order.{ordered_rationals, le_refl, le_or_lt, le_antisymm}
use Rattle.rational.proofs.OrderLaws.{not-le_of_lt}
use Rattle.rational.proofs.Vectors.{length-rows_dot, length-zeros, length-add_each, entry-add_each, rows_dot-append}
use Rattle.rational.proofs.Supports.{length-put_at, put_at_off}
use Rattle.linear_basis_law.specs.Problem as linear
use Rattle.equational_law.specs.Form.{Form}
use Rattle.equational_law.specs.Solutions.{IsForm, IsSolution}
use Rattle.face_descent_law.specs.Small.{slope, support}
use Rattle.quad_solve_law.specs.Problems.{price_problem, price_rows, doubled, direction}
use Rattle.quad_solve_law.specs.Steps.{LeadsDown}
use Rattle.quad_solve_law.proofs.Lists.{parts_same, only_same, dot-negated, length-negated, entry-negated, length-taken}
use Rattle.quad_solve_law.proofs.Doubled.{wide_doubled, rows_dot-doubled, length-difference, off_places}
use Rattle.quad_solve_law.proofs.Directions.{zeros_nonneg, one_nonneg}

length-rows : (g : List ℚ → List ℚ) (R : List (List ℚ)) → length (map g R) ≡ length R
length-rows g [] = refl
length-rows g (r ∷ R) = ap suc (length-rows g R)

pub entry_nonneg : (z : List ℚ) → All (λ x. zero_ℚ ≤ℚ x) z → (j : ℕ) → zero_ℚ ≤ℚ entry z j
entry_nonneg [] h j = le_refl zero_ℚ
entry_nonneg (x ∷ z) h zero = All-head (λ x. zero_ℚ ≤ℚ x) x z h
entry_nonneg (x ∷ z) h (suc j) = entry_nonneg z (All-tail (λ x. zero_ℚ ≤ℚ x) x z h) j

pub length-slope : (n : ℕ) (f : Form) (z : List ℚ) → IsForm n f → length (slope f z) ≡ length f.cost
length-slope n f z h =
    let e : length (rows_dot f.quadratic z) ≡ length f.cost = length-rows_dot f.quadratic z ∙ h.pairs_height ∙ sym h.cost in
    length-add_each (rows_dot f.quadratic z) f.cost e ∙ e

pub wide_matrix : (n : ℕ) (f : Form) → IsForm n f → HasColumns (length f.cost) f.matrix
wide_matrix n f h = subst (λ k. HasColumns k f.matrix) (sym h.cost) h.columns

pub wide_prices : (n : ℕ) (f : Form) (z : List ℚ) → IsForm n f → HasColumns (length f.cost) (price_rows f (slope f z))
wide_prices n f z h =
    All-append wide f.matrix (map neg_ℚ (slope f z) ∷ []) (wide_matrix n f h)
    (All-cons wide (map neg_ℚ (slope f z)) [] (length-negated (slope f z) ∙ length-slope n f z h) (All-nil wide))
  where
    wide : List ℚ → Type 0
    wide r = length r ≡ length f.cost

pub prices_form_a_problem : (n : ℕ) (f : Form) (z : List ℚ) → IsForm n f → linear.IsProblem (price_problem f z)
prices_form_a_problem n f z h = record {
  rows = length-rows (doubled (support z)) (price_rows f (slope f z)) ∙ length-append f.matrix (map neg_ℚ (slope f z) ∷ [])
      ∙ sym (length-append (zeros (length f.matrix)) (one_ℚ ∷ []) ∙ ap (λ k. k + 1) (length-zeros (length f.matrix)));
  columns = wide_doubled (length f.cost) (support z) (price_rows f (slope f z)) (wide_prices n f z h);
  nonneg = All-append (λ x. zero_ℚ ≤ℚ x) (zeros (length f.matrix)) (one_ℚ ∷ []) (zeros_nonneg (length f.matrix)) one_nonneg;
}

pub solution_leads_down : (n : ℕ) (f : Form) (z x : List ℚ) → IsForm n f → IsSolution f z → linear.IsSolution (price_problem f z) x → LeadsDown f z (direction f z x)
solution_leads_down n f z x h k s = record {
  size = length-difference (length f.cost) (support z) x long;
  equal = parts.0;
  falls = ring rationals (dot (slope f z) d ∷ []) (λ c. c ≐ minus (minus c)) refl
      ∙ ap neg_ℚ (sym (dot-negated (slope f z) d) ∙ only_same (dot (map neg_ℚ (slope f z)) d) one_ℚ parts.1);
  lessens = λ j b. ⊎_elim (λ l. absurd (not-le_of_lt b (kept j (le_antisymm (entry z j) zero_ℚ l (entry_nonneg z k.not_negative j))))) (λ l. l) (le_or_lt (entry z j) zero_ℚ);
}
  where
    d : List ℚ
    d = direction f z x

    long : length f.cost ≤ length x
    long = omega (arith, s.size)

    products : rows_dot (price_problem f z).rows x ≡ rows_dot f.matrix d ++ dot (map neg_ℚ (slope f z)) d ∷ []
    products = rows_dot-doubled (length f.cost) (support z) (price_rows f (slope f z)) x (wide_prices n f z h) long
        ∙ rows_dot-append f.matrix (map neg_ℚ (slope f z) ∷ []) d

    parts : (rows_dot f.matrix d ≡ zeros (length f.matrix)) × (dot (map neg_ℚ (slope f z)) d ∷ [] ≡ one_ℚ ∷ [])
    parts = parts_same (rows_dot f.matrix d) (zeros (length f.matrix)) _ _ (length-rows_dot f.matrix d ∙ sym (length-zeros (length f.matrix))) (sym products ∙ s.same)

    put : List ℚ
    put = put_at (length f.cost) (support z) (drop (length f.cost) x)

    kept : (j : ℕ) → entry z j ≡ zero_ℚ → zero_ℚ ≤ℚ entry d j
    kept j e =
        let front = take (length f.cost) x in
        let a : entry d j ≡ entry front j +ℚ entry (map neg_ℚ put) j =
        entry-add_each front (map neg_ℚ put) j (length-taken (length f.cost) x long ∙ sym (length-negated put ∙ length-put_at (length f.cost) (support z) (drop (length f.cost) x))) in
        let b : entry (map neg_ℚ put) j ≡ neg_ℚ zero_ℚ =
        entry-negated put j ∙ ap neg_ℚ (put_at_off (length f.cost) (support z) (drop (length f.cost) x) j (off_places 0 z j j (omega arith) e)) in
        prove ordered_rationals (entry d j ∷ entry front j ∷ entry (map neg_ℚ put) j ∷ [])
        (λ d p m. lit 0 ≼ d ⇐ scaled (minus (lit 1)) d (p ⊕ m) ⊞ scaled (minus (lit 1)) m (minus (lit 0)) ⊞ given (lit 0 ≼ p)) refl a b
        (entry_nonneg front (All-take (λ x. zero_ℚ ≤ℚ x) (length f.cost) x s.nonneg) j)
