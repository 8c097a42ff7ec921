-- Farkas vectors of the price problem.
use Rattle.std.proofs.Common.{◌≡◌, ◌≢◌, refl, sym, ◌∙◌, ap, subst, ℕ, suc, ◌+◌, List, [], ◌∷◌, ◌++◌, length, map, arith}
use Rattle.std.specs.Prelude.{take, All}
use Rattle.std.proofs.lemmas.List.{length-append}
use Rattle.std.proofs.lemmas.List.Elements.{All-nil, All-cons, All-head, All-tail}
use Rattle.algebra.proofs.Polynomial.{minus, ◌⊕◌, ◌⊗◌, ◌≐◌, ◌≼◌, lit}
use Rattle.algebra.proofs.Certificate.{prove, given, scaled, square, ◌⊞◌, ◌⊠◌, ◌⇐◌}
use Rattle.algebra.proofs.Solver.{ring}
use Rattle.rational.specs.Rational.{ℚ, zero_ℚ, one_ℚ, neg_ℚ, reciprocal, ◌+ℚ◌, ◌*ℚ◌}
use Rattle.rational.specs.Order.{◌≤ℚ◌, ◌<ℚ◌}
use Rattle.rational.specs.Sums.{entry}
use Rattle.rational.specs.Vectors.{dot, zeros, pick, combine, column, HasColumns}
use Rattle.rational.proofs.Field.{rationals, mul-reciprocal}
use Rattle.rational.proofs.Order.{ordered_rationals, lt_le, lt_irrefl}
use Rattle.rational.proofs.Vectors.{length-zeros, length-scale, length-column, dot-append, dot-zeros_right, dot-scale_left, entry-combine}
use Rattle.linear_basis_law.specs.Problem as linear
use Rattle.linear_basis_law.proofs.Verdicts.{not_both}
use Rattle.equational_law.specs.Form.{Form}
use Rattle.equational_law.specs.Solutions.{IsForm}
use Rattle.equational_law.specs.Optimal.{IsOptimality}
use Rattle.face_descent_law.specs.Small.{HasMultipliers, slope, support}
use Rattle.quad_solve_law.specs.Problems.{price_problem, price_rows, price_multipliers, last_number}
use Rattle.quad_solve_law.proofs.Lists.{entry-negated, length-taken, with_last, front_all, back_all, over_is_scale}
use Rattle.quad_solve_law.proofs.Doubled.{combine-doubled, on_places}
use Rattle.quad_solve_law.proofs.Descents.{entry_nonneg, wide_prices, prices_form_a_problem}

all_negated : (u : List ℚ) → All (λ x. zero_ℚ ≤ℚ x) (map neg_ℚ u) → All (λ x. zero_ℚ ≤ℚ neg_ℚ x) u
all_negated [] h = All-nil (λ x. zero_ℚ ≤ℚ neg_ℚ x)
all_negated (x ∷ u) h = All-cons (λ x. zero_ℚ ≤ℚ neg_ℚ x) x u (All-head (λ x. zero_ℚ ≤ℚ x) (neg_ℚ x) (map neg_ℚ u) h) (all_negated u (All-tail (λ x. zero_ℚ ≤ℚ x) (neg_ℚ x) (map neg_ℚ u) h))

column-append : (j : ℕ) (M : List (List ℚ)) (r : List ℚ) → column j (M ++ r ∷ []) ≡ column j M ++ entry r j ∷ []
column-append j [] r = refl
column-append j (u ∷ M) r = ap (λ l. entry u j ∷ l) (column-append j M r)

-- dividing by a number below 0
divided_le : (a t g i : ℚ) → t <ℚ zero_ℚ → t *ℚ i ≡ one_ℚ → zero_ℚ ≤ℚ (a +ℚ t *ℚ neg_ℚ g) → (i *ℚ a) ≤ℚ g
divided_le a t g i b e h =
    let n : i ≤ℚ zero_ℚ = prove ordered_rationals (t ∷ i ∷ []) (λ t i. i ≼ lit 0 ⇐ (given (t ≼ lit 0) ⊠ square i) ⊞ scaled (minus i) (t ⊗ i) (lit 1)) refl (lt_le t zero_ℚ b) e in
    prove ordered_rationals (a ∷ t ∷ g ∷ i ∷ [])
    (λ a t g i. i ⊗ a ≼ g ⇐ (given (i ≼ lit 0) ⊠ given (lit 0 ≼ a ⊕ t ⊗ minus g)) ⊞ scaled g (t ⊗ i) (lit 1)) refl n h e

divided_eq : (a t g i : ℚ) → t *ℚ i ≡ one_ℚ → zero_ℚ ≤ℚ (a +ℚ t *ℚ neg_ℚ g) → zero_ℚ ≤ℚ neg_ℚ (a +ℚ t *ℚ neg_ℚ g) → i *ℚ a ≡ g
divided_eq a t g i e h k =
    let z : a +ℚ t *ℚ neg_ℚ g ≡ zero_ℚ = Rattle.rational.proofs.Order.le_antisymm (a +ℚ t *ℚ neg_ℚ g) zero_ℚ
    (prove ordered_rationals ((a +ℚ t *ℚ neg_ℚ g) ∷ []) (λ v. v ≼ lit 0 ⇐ given (lit 0 ≼ minus v)) refl k) h in
    prove ordered_rationals (a ∷ t ∷ g ∷ i ∷ []) (λ a t g i. i ⊗ a ≐ g ⇐ scaled i (a ⊕ t ⊗ minus g) (lit 0) ⊞ scaled g (t ⊗ i) (lit 1)) refl z e

module _ (n : ℕ) (f : Form) (z w : List ℚ) (form : IsForm n f) (farkas : linear.IsFarkas (price_problem f z) w) where
  abbrev m : ℕ
  m = length f.matrix

  abbrev t : ℚ
  t = last_number f w

  abbrev y : List ℚ
  y = take m w

  size : length w ≡ suc m
  size = farkas.size ∙ length-append (zeros m) (one_ℚ ∷ []) ∙ ap (λ k. k + 1) (length-zeros m) ∙ omega arith

  parts : w ≡ y ++ t ∷ []
  parts = with_last m w size

  y_size : length y ≡ m
  y_size = length-taken m w (omega (arith, size))

  pub last_below : t <ℚ zero_ℚ
  last_below = subst (λ s. s <ℚ zero_ℚ)
      (ap (λ u. dot u (zeros m ++ one_ℚ ∷ [])) parts ∙ dot-append y (t ∷ []) (zeros m) (one_ℚ ∷ []) (y_size ∙ sym (length-zeros m))
      ∙ ap (λ s. s +ℚ dot (t ∷ []) (one_ℚ ∷ [])) (dot-zeros_right y m) ∙ ring rationals (t ∷ []) (λ t. lit 0 ⊕ (t ⊗ lit 1 ⊕ lit 0) ≐ t) refl)
      farkas.below

  inverse : t *ℚ reciprocal t ≡ one_ℚ
  inverse = mul-reciprocal t (λ e. lt_irrefl zero_ℚ (subst (λ s. s <ℚ zero_ℚ) e last_below))

  abbrev sum : List ℚ
  sum = combine (length f.cost) w (price_rows f (slope f z))

  all_sums : All (λ x. zero_ℚ ≤ℚ x) (sum ++ map neg_ℚ (pick (support z) sum))
  all_sums = subst (All (λ x. zero_ℚ ≤ℚ x)) (combine-doubled (length f.cost) (support z) w (price_rows f (slope f z)) (wide_prices n f z form)) farkas.nonneg

  sum_is : (j : ℕ) → entry sum j ≡ dot y (column j f.matrix) +ℚ t *ℚ neg_ℚ (entry (slope f z) j)
  sum_is j =
      entry-combine (length f.cost) w (price_rows f (slope f z)) j (wide_prices n f z form)
      ∙ ap (dot w) (column-append j f.matrix (map neg_ℚ (slope f z)))
      ∙ ap (λ u. dot u (column j f.matrix ++ entry (map neg_ℚ (slope f z)) j ∷ [])) parts
      ∙ dot-append y (t ∷ []) (column j f.matrix) (entry (map neg_ℚ (slope f z)) j ∷ []) (y_size ∙ sym (length-column j f.matrix))
      ∙ ap (λ x. dot y (column j f.matrix) +ℚ (t *ℚ x +ℚ zero_ℚ)) (entry-negated (slope f z) j)
      ∙ ring rationals (dot y (column j f.matrix) ∷ t ∷ entry (slope f z) j ∷ []) (λ a t g. a ⊕ (t ⊗ minus g ⊕ lit 0) ≐ a ⊕ t ⊗ minus g) refl

  nonneg : (j : ℕ) → zero_ℚ ≤ℚ (dot y (column j f.matrix) +ℚ t *ℚ neg_ℚ (entry (slope f z) j))
  nonneg j = subst (λ s. zero_ℚ ≤ℚ s) (sum_is j) (entry_nonneg sum (front_all (λ x. zero_ℚ ≤ℚ x) sum (map neg_ℚ (pick (support z) sum)) all_sums) j)

  nonpos : (j : ℕ) → entry z j ≢ zero_ℚ → zero_ℚ ≤ℚ neg_ℚ (dot y (column j f.matrix) +ℚ t *ℚ neg_ℚ (entry (slope f z) j))
  nonpos j k = subst (λ s. zero_ℚ ≤ℚ neg_ℚ s) (sum_is j)
      (on_places (λ x. zero_ℚ ≤ℚ neg_ℚ x) sum 0 z j j (omega arith)
      (all_negated (pick (support z) sum) (back_all (λ x. zero_ℚ ≤ℚ x) sum (map neg_ℚ (pick (support z) sum)) all_sums)) k)

  given_by : (k : ℕ) (j : ℕ) → HasColumns k f.matrix → entry (combine k (price_multipliers f w) f.matrix) j ≡ reciprocal t *ℚ dot y (column j f.matrix)
  given_by k j h = entry-combine k (price_multipliers f w) f.matrix j h ∙ ap (λ u. dot u (column j f.matrix)) (over_is_scale t y) ∙ dot-scale_left (reciprocal t) y (column j f.matrix)

  multipliers_size : length (price_multipliers f w) ≡ m
  multipliers_size = ap length (over_is_scale t y) ∙ length-scale (reciprocal t) y ∙ y_size

  pub multipliers_optimal : IsOptimality n f z (price_multipliers f w)
  multipliers_optimal = record {
    size = multipliers_size ∙ sym form.right;
    at_most = λ j. subst (λ s. s ≤ℚ entry (slope f z) j) (sym (given_by n j form.columns))
        (divided_le (dot y (column j f.matrix)) t (entry (slope f z) j) (reciprocal t) last_below inverse (nonneg j));
    on_support = λ j k. given_by n j form.columns
        ∙ divided_eq (dot y (column j f.matrix)) t (entry (slope f z) j) (reciprocal t) inverse (nonneg j) (nonpos j k);
  }

  pub multipliers_stationary : HasMultipliers n f z
  multipliers_stationary = record { multipliers = price_multipliers f w; size = multipliers_size; same = multipliers_optimal.on_support }

pub not_both_prices : (n : ℕ) (f : Form) (z x w : List ℚ) → IsForm n f → linear.IsSolution (price_problem f z) x → linear.IsFarkas (price_problem f z) w → ⊥
not_both_prices n f z x w h s k = not_both (price_problem f z) x w (prices_form_a_problem n f z h) s k
