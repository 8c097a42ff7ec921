-- Forms that are sums of weighted squares: they have no negative value, and are convex.
use Rattle.std.specs.Prelude.{◌≡◌, ℕ, List, [], ◌∷◌, pos}
use Rattle.std.proofs.Common.{sym, subst, ◌∙◌, ap, refl}
use Rattle.rational.specs.Divisors.{gcd_of}
use Rattle.rational.specs.Rational.{ℚ, zero_ℚ, one_ℚ, whole, ratio, same_ℚ, ◌+ℚ◌, ◌-ℚ◌, ◌*ℚ◌}
use Rattle.rational.specs.Order.{◌≤ℚ◌}
use Rattle.program_law.proofs.Ring.{ring_by, x0, x1, x2, x3, x4}
use Rattle.algebra.proofs.Polynomial.{◌⊕◌, ◌⊝◌, ◌⊗◌, num}
use Rattle.rational.proofs.Order.{le_refl, lt_le, square_nonneg, mul_nonneg}
use Rattle.rational.proofs.OrderLaws.{le_of_eq, add-le-add, le_trans}
use Rattle.program_law.proofs.Numbers.{le_tested}
use Rattle.program_law.proofs.Sums.{along, along_zero, dot_along, form_along, along_equal, along_sum, along_scaled}
use Rattle.program_law.specs.declared.Square.{Square}
use Rattle.rational.specs.Vectors.{dot, form, row_at}
use Rattle.rational.specs.Sums.{entry}
use Rattle.program_law.specs.Value.{half}
use Rattle.program_law.specs.Squares.{squares_sum, ArePositive, AreSquaresOf, IsSemidefinite}

-- ---- the form by its squares
unfoldable pub weighed : List Square → List ℚ → List ℚ → ℚ
weighed [] w x = zero_ℚ
weighed (q ∷ qs) w x = q.weight *ℚ (dot q.coef w *ℚ dot q.coef x) +ℚ weighed qs w x

-- one row of the form, at w
row_of : (qs : List Square) (w : List ℚ) (j : ℕ) → ℚ
row_of [] w j = zero_ℚ
row_of (q ∷ qs) w j = (q.weight *ℚ dot q.coef w) *ℚ entry q.coef j +ℚ row_of qs w j

row_is : (qs : List Square) (w : List ℚ) (j : ℕ) → along (squares_sum qs j) w ≡ row_of qs w j
unfolding row_of
row_is [] w j = along_zero w
row_is (q ∷ qs) w j =
    along_sum (λ k. q.weight *ℚ entry q.coef j *ℚ entry q.coef k) (squares_sum qs j) w
    ∙ ap (λ z. z +ℚ along (squares_sum qs j) w) (along_scaled (q.weight *ℚ entry q.coef j) (entry q.coef) w ∙ ap (λ z. q.weight *ℚ entry q.coef j *ℚ z) (sym (dot_along q.coef w)))
    ∙ ap (λ z. q.weight *ℚ entry q.coef j *ℚ dot q.coef w +ℚ z) (row_is qs w j)
    ∙ ring_by (q.weight ∷ entry q.coef j ∷ dot q.coef w ∷ row_of qs w j ∷ []) (x0 ⊗ x1 ⊗ x2 ⊕ x3) ((x0 ⊗ x2) ⊗ x1 ⊕ x3) refl

rows_are : (qs : List Square) (w x : List ℚ) → along (row_of qs w) x ≡ weighed qs w x
unfolding row_of weighed
rows_are [] w x = along_zero x
rows_are (q ∷ qs) w x =
    along_sum (λ j. (q.weight *ℚ dot q.coef w) *ℚ entry q.coef j) (row_of qs w) x
    ∙ ap (λ z. z +ℚ along (row_of qs w) x) (along_scaled (q.weight *ℚ dot q.coef w) (entry q.coef) x ∙ ap (λ z. (q.weight *ℚ dot q.coef w) *ℚ z) (sym (dot_along q.coef x)))
    ∙ ap (λ z. (q.weight *ℚ dot q.coef w) *ℚ dot q.coef x +ℚ z) (rows_are qs w x)
    ∙ ring_by (q.weight ∷ dot q.coef w ∷ dot q.coef x ∷ weighed qs w x ∷ []) ((x0 ⊗ x1) ⊗ x2 ⊕ x3) (x0 ⊗ (x1 ⊗ x2) ⊕ x3) refl

pub form_is : (q : List (List ℚ)) (qs : List Square) (w x : List ℚ) → AreSquaresOf q qs → form q w x ≡ weighed qs w x
form_is q qs w x s =
    form_along q w x
    ∙ along_equal (λ j. dot (row_at q j) w) (row_of qs w) x (λ j. dot_along (row_at q j) w ∙ along_equal (entry (row_at q j)) (squares_sum qs j) w (s.sum j) ∙ row_is qs w j)
    ∙ rows_are qs w x

-- ---- convexity
pub halves : half +ℚ half ≡ one_ℚ
unfolding ◌+ℚ◌ ratio gcd_of whole
halves = same_ℚ _ _ refl refl

pub half_not_negative : zero_ℚ ≤ℚ half
unfolding ratio gcd_of whole
half_not_negative = le_tested zero_ℚ half refl

one_times : (x : ℚ) → x ≡ (half +ℚ half) *ℚ x
one_times x = ring_by (x ∷ []) x0 (num (pos 1) ⊗ x0) refl ∙ ap (λ z. z *ℚ x) (sym halves)

completed : (k a b : ℚ) → (half +ℚ half) *ℚ (k *ℚ (a *ℚ b)) +ℚ half *ℚ (k *ℚ ((b -ℚ a) *ℚ (b -ℚ a))) ≡ half *ℚ (k *ℚ (b *ℚ b)) +ℚ half *ℚ (k *ℚ (a *ℚ a))
completed k a b =
    ring_by (half ∷ k ∷ a ∷ b ∷ []) ((x0 ⊕ x0) ⊗ (x1 ⊗ (x2 ⊗ x3)) ⊕ x0 ⊗ (x1 ⊗ ((x3 ⊝ x2) ⊗ (x3 ⊝ x2)))) (x0 ⊗ (x1 ⊗ (x3 ⊗ x3)) ⊕ x0 ⊗ (x1 ⊗ (x2 ⊗ x2))) refl

one_square : (k a b : ℚ) → zero_ℚ ≤ℚ k → (k *ℚ (a *ℚ b)) ≤ℚ (half *ℚ (k *ℚ (b *ℚ b)) +ℚ half *ℚ (k *ℚ (a *ℚ a)))
one_square k a b h =
    let c = k *ℚ (a *ℚ b) in let d = half *ℚ (k *ℚ ((b -ℚ a) *ℚ (b -ℚ a))) in
    let rest : zero_ℚ ≤ℚ d = mul_nonneg _ _ half_not_negative (mul_nonneg _ _ h (square_nonneg (b -ℚ a))) in
    le_trans (le_of_eq (ring_by (c ∷ []) x0 (x0 ⊕ num (pos 0)) refl))
    (le_trans (add-le-add (le_of_eq (one_times c)) rest) (le_of_eq (completed k a b)))

squares_le : (qs : List Square) (w x : List ℚ) → ArePositive qs → weighed qs w x ≤ℚ (half *ℚ weighed qs x x +ℚ half *ℚ weighed qs w w)
unfolding weighed
squares_le [] w x p = le_of_eq (ring_by (half ∷ []) (num (pos 0)) (x0 ⊗ num (pos 0) ⊕ x0 ⊗ num (pos 0)) refl)
squares_le (q ∷ qs) w x p =
    let k = q.weight in let a = dot q.coef w in let b = dot q.coef x in
    le_trans (add-le-add (one_square k a b (lt_le _ _ p.0)) (squares_le qs w x p.1))
    (le_of_eq (ring_by (half ∷ (k *ℚ (b *ℚ b)) ∷ (k *ℚ (a *ℚ a)) ∷ weighed qs x x ∷ weighed qs w w ∷ [])
    ((x0 ⊗ x1 ⊕ x0 ⊗ x2) ⊕ (x0 ⊗ x3 ⊕ x0 ⊗ x4)) (x0 ⊗ (x1 ⊕ x3) ⊕ x0 ⊗ (x2 ⊕ x4)) refl))

-- x^T Q w ≤ ½ x^T Q x + ½ w^T Q w
pub convex : (q : List (List ℚ)) (qs : List Square) (w x : List ℚ) → AreSquaresOf q qs → form q w x ≤ℚ (half *ℚ form q x x +ℚ half *ℚ form q w w)
convex q qs w x s =
    subst (λ z. z ≤ℚ (half *ℚ form q x x +ℚ half *ℚ form q w w)) (sym (form_is q qs w x s))
    (subst (λ z. weighed qs w x ≤ℚ (half *ℚ z +ℚ half *ℚ form q w w)) (sym (form_is q qs x x s))
    (subst (λ z. weighed qs w x ≤ℚ (half *ℚ weighed qs x x +ℚ half *ℚ z)) (sym (form_is q qs w w s)) (squares_le qs w x s.positive)))

-- ---- squares make a semidefinite form
sum_turned : (ss : List Square) (j k : ℕ) → squares_sum ss j k ≡ squares_sum ss k j
sum_turned [] j k = refl
sum_turned (s ∷ ss) j k =
    ap (λ z. s.weight *ℚ entry s.coef j *ℚ entry s.coef k +ℚ z) (sum_turned ss j k)
    ∙ ring_by (s.weight ∷ entry s.coef j ∷ entry s.coef k ∷ squares_sum ss k j ∷ []) (x0 ⊗ x1 ⊗ x2 ⊕ x3) (x0 ⊗ x2 ⊗ x1 ⊕ x3) refl

weighed_not_negative : (qs : List Square) (u : List ℚ) → ArePositive qs → zero_ℚ ≤ℚ weighed qs u u
unfolding weighed
weighed_not_negative [] u p = le_refl zero_ℚ
weighed_not_negative (q ∷ qs) u p =
    le_trans (le_of_eq (ring_by [] (num (pos 0)) (num (pos 0) ⊕ num (pos 0)) refl))
    (add-le-add (mul_nonneg _ _ (lt_le _ _ p.0) (square_nonneg (dot q.coef u))) (weighed_not_negative qs u p.1))

pub squares_semidefinite : (q : List (List ℚ)) (qs : List Square) → AreSquaresOf q qs → IsSemidefinite q
squares_semidefinite q qs s =
    record {
      symmetric = λ j k. s.sum j k ∙ sum_turned qs j k ∙ sym (s.sum k j);
      not_negative = λ u. subst (λ z. zero_ℚ ≤ℚ z) (sym (form_is q qs u u s)) (weighed_not_negative qs u s.positive);
    }
